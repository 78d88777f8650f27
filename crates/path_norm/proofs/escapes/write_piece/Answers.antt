use Rattle.std.proofs.Common.{get_or}
use Rattle.path_norm.specs.Escapes.{plain, escape}
use Rattle.path_norm.proofs.Pieces.{digits_after, escape_split, plain_split, first_slashless}
use Rattle.path_norm.proofs.escapes.write_piece.Goals as goal

pub returns-in_ok-write_escape : goal.returns-in_ok-write_escape
returns-in_ok-write_escape c =
    let (long, high, low) = digits_after c.args.rest.now c.requires.whole c.if-rest-eq37.true in
    (escape (get_or c.args.rest.now 1 0) (get_or c.args.rest.now 2 0), (high, low), escape_split c.args.rest.now c.if-rest-eq37.true long, c.in_ok-write_escape.ensures)

pub returns-in_ok-push : goal.returns-in_ok-push
returns-in_ok-push c =
    (plain (get_or c.args.rest.now 0 0), (c.if-rest-eq37.false, first_slashless c.args.rest.now c.requires.some c.requires.slashless), plain_split c.args.rest.now c.requires.some, c.in_ok-push.ensures.items)
