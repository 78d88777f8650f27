use Rattle.rule_eval.proofs.asking.is_met.Goals as goal

pub returns-in-HeaderRegexp-clause-truth : goal.returns-in-HeaderRegexp-clause-truth
returns-in-HeaderRegexp-clause-truth c =
    rw (c.in-HeaderRegexp.is, ← c.as_slice-in-HeaderRegexp.ensures) c.is_found_in_values.ensures

pub returns-in-Query-clause-truth : goal.returns-in-Query-clause-truth
returns-in-Query-clause-truth c =
    rw (c.in-Query.is, ← c.as_slice-in-Query.ensures, ← c.as_slice-in-Query-2.ensures) c.has_pair.ensures

pub returns-in-QueryRegexp-clause-truth : goal.returns-in-QueryRegexp-clause-truth
returns-in-QueryRegexp-clause-truth c =
    rw (c.in-QueryRegexp.is, ← c.as_slice-in-QueryRegexp.ensures) c.is_found_in_pairs.ensures
