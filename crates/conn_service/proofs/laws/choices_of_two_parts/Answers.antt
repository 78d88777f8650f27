use Rattle.conn_service.proofs.Lists.{looks-append, picks-append, spents-append}
use Rattle.conn_service.proofs.laws.choices_of_two_parts.Goals as goal

pub returns-clause-looks : goal.returns-clause-looks
returns-clause-looks c = looks-append

pub returns-clause-picks : goal.returns-clause-picks
returns-clause-picks c = picks-append

pub returns-clause-spents : goal.returns-clause-spents
returns-clause-spents c = spents-append
