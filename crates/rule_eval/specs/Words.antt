-- Which calls compare their values as they are.
use Rattle.std.specs.Prelude.{Bool, true, false}
use Rattle.rule_lang.specs.declared.matcher.Matcher.{Matcher}
use Rattle.rule_lang.specs.declared.matcher.Matcher.TheVariants.{Header, HeaderRegexp, Host, HostRegexp, Method, Path, PathPrefix, PathRegexp, Query, QueryRegexp, ClientIp}

abbrev pub has_words : Matcher → Bool
has_words Header = true
has_words HeaderRegexp = false
has_words Host = true
has_words HostRegexp = false
has_words Method = false
has_words Path = true
has_words PathPrefix = true
has_words PathRegexp = false
has_words Query = true
has_words QueryRegexp = false
has_words ClientIp = false
