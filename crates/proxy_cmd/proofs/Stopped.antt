-- Why there is no answer.
use Rattle.std.proofs.Common.{ℕ, List, Option, Some, None, Result, Ok, Err, IfErr, refl}
use Rattle.std.specs.Io.KnownBytes.{Keeps}
use Rattle.command_words.specs.declared.command.CheckPlan.{CheckPlan}
use Rattle.command_words.specs.declared.command.RoutePlan.{RoutePlan}
use Rattle.route_cmd.specs.Output.{Stops}
use Rattle.route_cmd.specs.declared.answer.Stop.{Stop}
use Rattle.route_cmd.specs.declared.answer.Stop.TheVariants.{File, Input, Memory}
use Rattle.proxy_cmd.specs.Output.{IsRoute, IsCheck, IsReplay, Unread, StopsCheck, StopsReplay, StopsWords, file_unread, input_unread, check_unread, script_unread}

-- what nobody touched is kept
pub keeps_itself : (held : Option (List ℕ)) → Keeps held held
keeps_itself None = tt
keeps_itself (Some xs) = refl

stop_words : (words : List (List ℕ)) (plan : RoutePlan) (file : Option (List ℕ)) (ff if_ : Type 0) (s : Stop) → IsRoute words plan → Stops file ff if_ s → StopsWords words file ff if_ s
stop_words words plan file ff if_ File w h = file_unread plan w h
stop_words words plan file ff if_ Input w (m, fine, form, failed) = input_unread plan w m fine form failed
stop_words words plan file ff if_ Memory w h = tt

pub stops_words : {A : Type 0} (words : List (List ℕ)) (plan : RoutePlan) (file : Option (List ℕ)) (ff if_ : Type 0) (r : Result A Stop) → IsRoute words plan
    → IfErr r (Stops file ff if_) → IfErr r (StopsWords words file ff if_)
stops_words words plan file ff if_ (Ok a) w h = tt
stops_words words plan file ff if_ (Err s) w h = stop_words words plan file ff if_ s w h

-- the same of `replay`
stop_script : (words : List (List ℕ)) (file : Option (List ℕ)) (ff if_ : Type 0) (s : Stop) → IsReplay words → StopsReplay if_ s → StopsWords words file ff if_ s
stop_script words file ff if_ File w h = absurd h
stop_script words file ff if_ Input w h = script_unread w h
stop_script words file ff if_ Memory w h = tt

pub stops_script : {A : Type 0} (words : List (List ℕ)) (file : Option (List ℕ)) (ff if_ : Type 0) (r : Result A Stop) → IsReplay words
    → IfErr r (StopsReplay if_) → IfErr r (StopsWords words file ff if_)
stops_script words file ff if_ (Ok a) w h = tt
stops_script words file ff if_ (Err s) w h = stop_script words file ff if_ s w h

-- the same of `check`, which reads no input
stop_check : (words : List (List ℕ)) (plan : CheckPlan) (file : Option (List ℕ)) (ff if_ : Type 0) (s : Stop) → IsCheck words plan → StopsCheck ff s → StopsWords words file ff if_ s
stop_check words plan file ff if_ File w h = check_unread plan w h
stop_check words plan file ff if_ Input w h = absurd h
stop_check words plan file ff if_ Memory w h = tt

pub stops_check : {A : Type 0} (words : List (List ℕ)) (plan : CheckPlan) (file : Option (List ℕ)) (ff if_ : Type 0) (r : Result A Stop) → IsCheck words plan
    → IfErr r (StopsCheck ff) → IfErr r (StopsWords words file ff if_)
stops_check words plan file ff if_ (Ok a) w h = tt
stops_check words plan file ff if_ (Err s) w h = stop_check words plan file ff if_ s w h
