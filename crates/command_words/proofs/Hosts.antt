-- Why a text is no address with a port.
use Rattle.std.proofs.Common.{◌≡◌, ℕ, List, Some}
use Rattle.ip_net.specs.declared.ip.Ip.{Ip}
use Rattle.ip_net.specs.Texts.{Writes}
use Rattle.command_words.specs.Cuts.{Cut, cut_at}
use Rattle.command_words.specs.Values.{IsPlainAddress, IsBracketedBehind}

-- the host before the colon is no address
pub no_host : (text : List ℕ) (cut : Cut) → cut_at 58 text ≡ Some cut → ((ip : Ip) → ¬ (Writes cut.before ip)) → (ip : Ip) (port : ℕ) → ¬ (IsPlainAddress text ip port)
no_host text cut e h ip port = λ is. (let there = rw e at is in h ip there.0)

-- nor is the one before the bracket
pub no_inner_host : (text : List ℕ) (cut : Cut) → cut_at 93 text ≡ Some cut → ((ip : Ip) → ¬ (Writes cut.before ip)) → (ip : Ip) (port : ℕ) → ¬ (IsBracketedBehind text ip port)
no_inner_host text cut e h ip port = λ is. (let there = rw e at is in h ip there.1)
