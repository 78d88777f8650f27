-- What may follow the tokens so far, a token at a time. `Forms` says what a rule is; this only serves the proofs.
use Rattle.std.specs.Prelude.{ℕ, zero, suc, ◌+◌, ◌==◌, Bool, false, Option, Some, None, List, [], ◌∷◌}
use Rattle.rule_lang.specs.declared.token.Token.{Token}
use Rattle.rule_lang.specs.declared.token.TokenKind.{TokenKind}
use Rattle.rule_lang.specs.declared.token.TokenKind.TheVariants as kind
use Rattle.rule_lang.specs.declared.expect.Next.{Next}
use Rattle.rule_lang.specs.declared.expect.Next.TheVariants as next
use Rattle.rule_lang.specs.declared.expect.Progress.{Progress}

abbrev pub at_next : Next → ℕ → Progress
at_next n groups = record { next = n; groups = groups }

-- a parenthesis closes the innermost group
abbrev pub closes : ℕ → Option Progress
closes zero = None
closes (suc groups) = Some (at_next next.Operator groups)

abbrev pub begins_operand : ℕ → TokenKind → Option Progress
begins_operand groups kind.Not = Some (at_next next.Operand groups)
begins_operand groups kind.Open = Some (at_next next.Operand (groups + 1))
begins_operand groups kind.Name = Some (at_next next.CallOpen groups)
begins_operand groups _ = None

abbrev pub follows_operand : ℕ → TokenKind → Option Progress
follows_operand groups kind.And = Some (at_next next.Operand groups)
follows_operand groups kind.Or = Some (at_next next.Operand groups)
follows_operand groups kind.Close = closes groups
follows_operand groups _ = None

abbrev pub opens_call : ℕ → TokenKind → Option Progress
opens_call groups kind.Open = Some (at_next next.FirstValue groups)
opens_call groups _ = None

abbrev pub begins_values : ℕ → TokenKind → Option Progress
begins_values groups kind.Raw = Some (at_next next.AfterValue groups)
begins_values groups kind.Quoted = Some (at_next next.AfterValue groups)
begins_values groups kind.Close = Some (at_next next.Operator groups)
begins_values groups _ = None

abbrev pub begins_value : ℕ → TokenKind → Option Progress
begins_value groups kind.Raw = Some (at_next next.AfterValue groups)
begins_value groups kind.Quoted = Some (at_next next.AfterValue groups)
begins_value groups _ = None

abbrev pub follows_value : ℕ → TokenKind → Option Progress
follows_value groups kind.Comma = Some (at_next next.Value groups)
follows_value groups kind.Close = Some (at_next next.Operator groups)
follows_value groups _ = None

abbrev pub stepped_at : Next → ℕ → TokenKind → Option Progress
stepped_at next.Operand groups k = begins_operand groups k
stepped_at next.Operator groups k = follows_operand groups k
stepped_at next.CallOpen groups k = opens_call groups k
stepped_at next.FirstValue groups k = begins_values groups k
stepped_at next.Value groups k = begins_value groups k
stepped_at next.AfterValue groups k = follows_value groups k

abbrev pub stepped : Progress → TokenKind → Option Progress
stepped p k = stepped_at p.next p.groups k

-- over all tokens, None from the first that may not follow
abbrev pub step_from : Option Progress → TokenKind → Option Progress
step_from None k = None
step_from (Some p) k = stepped p k

abbrev pub steps_from : Option Progress → List Token → Option Progress
steps_from p [] = p
steps_from p (t ∷ tokens) = steps_from (step_from p t.kind) tokens

abbrev pub at_start : Progress
at_start = at_next next.Operand 0

-- the tokens so far are a whole rule
abbrev pub is_whole_at : Next → ℕ → Bool
is_whole_at next.Operator groups = groups == 0
is_whole_at _ groups = false
