use Rattle.std.proofs.Common.{◌≡◌, ℕ, List, Option, Some, None, MatchOption, inl}
use Rattle.replay_script.specs.declared.lines.Line.{Line}
use Rattle.replay_script.specs.Lines.{Cuts, name_of, command_of, IsLone, IsLine}
use Rattle.replay_script.proofs.Cutting.{no_command, only_lone, never_cut}
use Rattle.replay_script.proofs.lines.read_line.Goals as goal

pub returns-in_err-command_named-in-Some : goal.returns-in_err-command_named-in-Some
returns-in_err-command_named-in-Some c = rw c.from_residual.ensures (no_command c.args.text.now c.in-Some.word.now c.in-Some.rest.now c.in-Some.ensures c.in_err-command_named-in-Some.ensures)

lone : (text : List ℕ) → ((a b : List ℕ) → ¬ (Cuts text a b)) → (o : Option Line) → MatchOption o ((l : Line) → IsLone l → text ≡ name_of (command_of l) → ⊥) (λ l. IsLone l × (text ≡ name_of (command_of l))) → MatchOption o ((l : Line) → ¬ (IsLine text l)) (IsLine text)
lone text never None h = only_lone text never h
lone text never (Some l) h = inl h

pub returns-in-None : goal.returns-in-None
returns-in-None c = lone c.args.text.now (never_cut c.args.text.now c.in-None.ensures) c.read_lone.result c.read_lone.ensures
