use Rattle.generation.proofs.Targets.{row_leads, row_leads_somewhere}
use Rattle.generation.proofs.law.targets_lead_to_their_servers.Goals as goal

pub returns-clause-servers : goal.returns-clause-servers
returns-clause-servers c = row_leads

pub returns-clause-somewhere : goal.returns-clause-somewhere
returns-clause-somewhere c = row_leads_somewhere
