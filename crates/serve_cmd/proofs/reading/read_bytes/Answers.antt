use Rattle.serve_cmd.proofs.Meant.{bytes_meant, fault_meant}
use Rattle.serve_cmd.proofs.reading.read_bytes.Goals as goal

pub returns-in-Ok-clause-means : goal.returns-in-Ok-clause-means
returns-in-Ok-clause-means g c = bytes_meant _ _ c.args.bytes.now c.in-Ok.config c.read_config.result c.in-Ok.ensures c.read_config.ensures.means

pub returns-in-Err-clause-means : goal.returns-in-Err-clause-means
returns-in-Err-clause-means g c = fault_meant _ _ c.args.bytes.now c.in-Err.fault c.read_fault.result c.read_fault.ensures.apart c.in-Err.ensures c.read_fault.ensures.generation c.read_fault.ensures.text
