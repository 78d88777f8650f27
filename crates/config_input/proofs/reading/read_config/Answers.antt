use Rattle.provider_merge.proofs.Few.{few_of_file}
use Rattle.config_input.specs.Inputs.{no_config}
use Rattle.config_input.proofs.reading.read_config.Goals as goal

pub returns-in_ok-merge_file-in-Ok-clause-read : goal.returns-in_ok-merge_file-in-Ok-clause-read
returns-in_ok-merge_file-in-Ok-clause-read g c =
    let (bytes, was, ended, means) = c.in-Ok.ensures in
    (record { bytes = bytes; was_read = was; config = c.in-Ok.config; means = means; alone = c.in_ok-merge_file-in-Ok.ensures }, ended)

pub returns-in_ok-merge_file-in-Ok-clause-few : goal.returns-in_ok-merge_file-in-Ok-clause-few
returns-in_ok-merge_file-in-Ok-clause-few g c = few_of_file c.in-Ok.config _ c.in_ok-merge_file-in-Ok.ensures

pub returns-in_ok-file_answer-in-Err-File-clause-read : goal.returns-in_ok-file_answer-in-Err-File-clause-read
returns-in_ok-file_answer-in-Err-File-clause-read g c =
    let (other, bytes, was, ended, means) = rw c.in-Err-File.field-0-is at c.in-Err-File.ensures in
    let said = c.in_ok-file_answer-in-Err-File.ensures in
    no_config bytes c.in-Err-File.fault was means other said.0 said.1
