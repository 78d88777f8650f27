use Rattle.replay_script.proofs.Pieces.{hex_front}
use Rattle.replay_script.proofs.escapes.hex_piece.Goals as goal

pub returns : goal.returns
returns c =
    let h = c.in_ok-hex_byte.ensures in
    hex_front c.args.text.now c.in_ok-low.rest.now c.in_ok-high.rest.now c.in_ok-high.high.now c.in_ok-low.low.now h.0 h.1 c.in_ok-hex_byte.field-0
    c.in_ok-high.ensures.cases.0 c.in_ok-low.ensures.cases.0 h.2 h.3 h.4 h.5 h.6
