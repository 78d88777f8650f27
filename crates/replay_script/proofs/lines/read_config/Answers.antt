use Rattle.replay_script.proofs.Cutting.{config_lines, not_consul, not_file, no_consul, not_from}
use Rattle.replay_script.proofs.lines.read_config.Goals as goal

pub returns-else-is_text : goal.returns-else-is_text
returns-else-is_text c = config_lines c.args.text.now (not_file c.args.text.now c.in-Some.word.now c.in-Some.root.now c.in-Some.ensures, no_consul c.args.text.now c.in-Some.word.now c.in-Some.root.now c.in-Some.ensures (λ e. not_from c.is_text.result c.if-is_text.false (c.is_text.ensures.1 e)))

pub returns-else-is_text-2 : goal.returns-else-is_text-2
returns-else-is_text-2 c = config_lines c.args.text.now ((λ e. not_from c.is_text-in-None.result c.if-is_text-2.false (c.is_text-in-None.ensures.1 e)), not_consul c.args.text.now c.in-None.ensures)
