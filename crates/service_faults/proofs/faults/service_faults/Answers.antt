use Rattle.service_faults.proofs.faults.service_faults.Goals as goal

pub returns : goal.returns
returns c = (c.in_ok-faults.ensures.judged, c.in_ok-faults.ensures.are_judged, c.in_ok-faults.ensures.faults_are)
