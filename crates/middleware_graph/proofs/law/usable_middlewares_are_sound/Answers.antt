use Rattle.middleware_graph.proofs.Sound.{sound, straight}
use Rattle.middleware_graph.proofs.law.usable_middlewares_are_sound.Goals as goal

pub returns-clause-sound : goal.returns-clause-sound
returns-clause-sound c = λ nodes place count own fault at state. sound nodes place count own fault at state

pub returns-clause-straight : goal.returns-clause-straight
returns-clause-straight c = λ nodes place count own at state. straight nodes place count state
