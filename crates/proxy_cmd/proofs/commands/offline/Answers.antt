use Rattle.std.proofs.Common.{refl}
use Rattle.proxy_cmd.specs.Output.{not_read, whole, cut}
use Rattle.proxy_cmd.proofs.Stopped.{keeps_itself}
use Rattle.proxy_cmd.proofs.commands.offline.Goals as goal

pub returns-in-Ok-write_all-clause-output : goal.returns-in-Ok-write_all-clause-output
returns-in-Ok-write_all-clause-output g c =
    let written = rw c.as_slice.ensures.value at c.in-Ok-write_all.ensures.whole in
    whole c.in-Ok.answer.text.items c.in-Ok.ensures.told written

pub returns-in-Ok-write_all-clause-read : goal.returns-in-Ok-write_all-clause-read
returns-in-Ok-write_all-clause-read g c = λ e. absurd (c.in-Ok.ensures.apart.0 e)

pub returns-in-Ok-write_all-clause-write : goal.returns-in-Ok-write_all-clause-write
returns-in-Ok-write_all-clause-write g c = λ e. absurd (c.in-Ok.ensures.apart.1 e)

pub returns-in-Ok-clause-output : goal.returns-in-Ok-clause-output
returns-in-Ok-clause-output g c =
    let part = rw c.as_slice.ensures.value at c.in-Err.ensures.part in
    cut c.in-Ok.answer.status c.in-Ok.answer.text.items refl c.in-Err.ensures.cause c.in-Ok.ensures.told part

pub returns-in-Err-File-clause-output : goal.returns-in-Err-File-clause-output
returns-in-Err-File-clause-output g c = not_read refl (rw c.in-Err-File.field-0-is at c.in-Err-File.ensures.stop) (keeps_itself (g.K.Sink.held c.args.out.now))

pub returns-in-Err-Input-clause-output : goal.returns-in-Err-Input-clause-output
returns-in-Err-Input-clause-output g c = not_read refl (rw c.in-Err-Input.field-0-is at c.in-Err-Input.ensures.stop) (keeps_itself (g.K.Sink.held c.args.out.now))
