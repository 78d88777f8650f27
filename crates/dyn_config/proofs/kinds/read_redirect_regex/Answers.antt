use Rattle.dyn_config.proofs.Fields.{redirect_regex_made}
use Rattle.dyn_config.proofs.kinds.read_redirect_regex.Goals as goal

pub returns : goal.returns
returns c = redirect_regex_made c.args.style c.args.tree.now c.in_ok-regex.regex c.in_ok-replacement.replacement c.flag_under-permanent.result c.in_ok-regex.ensures c.in_ok-replacement.ensures c.flag_under-permanent.ensures
