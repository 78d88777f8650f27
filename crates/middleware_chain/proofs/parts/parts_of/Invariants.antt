use Rattle.std.proofs.Common.{ℕ, ◌+◌, ◌-◌, ◌^◌, ◌≤◌, min, List, ◌++◌, drop, count_by}
use Rattle.middleware_chain.specs.Parts.{AreParts, is_refused}
use Rattle.middleware_chain.specs.declared.part.Part.{Part}
use Rattle.middleware_chain.proofs.parts.parts_of.Given as goal

abbrev pub invariant-loop-entry : goal.invariant-loop-entry
invariant-loop-entry g l = record {
  fewer : l.left ≤ l.fn.left;
  parts : (ps : List Part) (end : ℕ) → AreParts l.entries l.left (drop l.entry-index l.entries) ps end → AreParts l.entries l.fn.left l.entries (l.parts ++ ps) end;
  refused : min (g.S.PatternShop.refusals l.fn.shop + count_by is_refused l.parts) (2 ^ 64 - 1) ≤ g.S.PatternShop.refusals l.shop;
  later : g.S.PatternShop.refusals l.fn.shop ≤ g.S.PatternShop.refusals l.shop;
}
