use Rattle.conn_machine.specs.declared.event.ConnEvent.TheVariants as event
use Rattle.conn_machine.proofs.Events.{event_told, event_server, event_number, server_told, dial_told}
use Rattle.conn_machine.proofs.conn.Conn.step.Goals as goal

pub returns-in-Bytes-clause-client : goal.returns-in-Bytes-clause-client
returns-in-Bytes-clause-client c = c.bytes.ensures.client

pub returns-in-Bytes-clause-number : goal.returns-in-Bytes-clause-number
returns-in-Bytes-clause-number c = event_number c.args.self.now.current.number (event.Bytes c.in-Bytes.piece) c.in-Bytes.is c.bytes.ensures.number

pub returns-in-Bytes-clause-going : goal.returns-in-Bytes-clause-going
returns-in-Bytes-clause-going c = c.bytes.ensures.going

pub returns-in-Bytes-clause-prompt : goal.returns-in-Bytes-clause-prompt
returns-in-Bytes-clause-prompt c = c.bytes.ensures.prompt

pub returns-in-Bytes-clause-server : goal.returns-in-Bytes-clause-server
returns-in-Bytes-clause-server c = event_server c.args.self.now c.bytes.new.self (event.Bytes c.in-Bytes.piece) c.in-Bytes.is c.bytes.ensures.server

pub returns-in-Bytes-clause-reached : goal.returns-in-Bytes-clause-reached
returns-in-Bytes-clause-reached c = λ prompt steps f r. event_told c.args.self.now c.bytes.new.self steps (event.Bytes c.in-Bytes.piece) c.in-Bytes.is (c.bytes.ensures.reached steps r)

pub returns-in-End-clause-client : goal.returns-in-End-clause-client
returns-in-End-clause-client c = c.end.ensures.client

pub returns-in-End-clause-number : goal.returns-in-End-clause-number
returns-in-End-clause-number c = event_number c.args.self.now.current.number event.End c.in-End.is c.end.ensures.number

pub returns-in-End-clause-going : goal.returns-in-End-clause-going
returns-in-End-clause-going c = c.end.ensures.going

pub returns-in-End-clause-prompt : goal.returns-in-End-clause-prompt
returns-in-End-clause-prompt c = c.end.ensures.prompt

pub returns-in-End-clause-server : goal.returns-in-End-clause-server
returns-in-End-clause-server c = event_server c.args.self.now c.end.new.self event.End c.in-End.is c.end.ensures.server

pub returns-in-End-clause-reached : goal.returns-in-End-clause-reached
returns-in-End-clause-reached c = λ prompt steps f r. event_told c.args.self.now c.end.new.self steps event.End c.in-End.is (c.end.ensures.reached prompt steps r)

pub returns-in-Failed-clause-client : goal.returns-in-Failed-clause-client
returns-in-Failed-clause-client c = c.fail.ensures.client

pub returns-in-Failed-clause-number : goal.returns-in-Failed-clause-number
returns-in-Failed-clause-number c = event_number c.args.self.now.current.number event.Failed c.in-Failed.is c.fail.ensures.number

pub returns-in-Failed-clause-reached : goal.returns-in-Failed-clause-reached
returns-in-Failed-clause-reached c = λ prompt steps f r. event_told c.args.self.now c.fail.new.self steps event.Failed c.in-Failed.is (c.fail.ensures.reached steps r)

pub returns-in-Pinned-clause-client : goal.returns-in-Pinned-clause-client
returns-in-Pinned-clause-client c = c.pin.ensures.client

pub returns-in-Pinned-clause-number : goal.returns-in-Pinned-clause-number
returns-in-Pinned-clause-number c = event_number c.args.self.now.current.number (event.Pinned c.in-Pinned.issue) c.in-Pinned.is c.pin.ensures.number

pub returns-in-Pinned-clause-going : goal.returns-in-Pinned-clause-going
returns-in-Pinned-clause-going c = c.pin.ensures.going

pub returns-in-Pinned-clause-prompt : goal.returns-in-Pinned-clause-prompt
returns-in-Pinned-clause-prompt c = λ _. c.pin.ensures.prompt

pub returns-in-Pinned-clause-server : goal.returns-in-Pinned-clause-server
returns-in-Pinned-clause-server c = event_server c.args.self.now c.pin.new.self (event.Pinned c.in-Pinned.issue) c.in-Pinned.is c.pin.ensures.server

pub returns-in-Pinned-clause-reached : goal.returns-in-Pinned-clause-reached
returns-in-Pinned-clause-reached c = λ prompt steps f r. event_told c.args.self.now c.pin.new.self steps (event.Pinned c.in-Pinned.issue) c.in-Pinned.is (c.pin.ensures.reached steps r)

pub returns-in-Looked-clause-client : goal.returns-in-Looked-clause-client
returns-in-Looked-clause-client c = c.looked.ensures.client

pub returns-in-Looked-clause-number : goal.returns-in-Looked-clause-number
returns-in-Looked-clause-number c = event_number c.args.self.now.current.number (event.Looked c.in-Looked.look) c.in-Looked.is c.looked.ensures.number

pub returns-in-Looked-clause-going : goal.returns-in-Looked-clause-going
returns-in-Looked-clause-going c = c.looked.ensures.going

pub returns-in-Looked-clause-prompt : goal.returns-in-Looked-clause-prompt
returns-in-Looked-clause-prompt c = λ _. c.looked.ensures.prompt

pub returns-in-Looked-clause-server : goal.returns-in-Looked-clause-server
returns-in-Looked-clause-server c = event_server c.args.self.now c.looked.new.self (event.Looked c.in-Looked.look) c.in-Looked.is c.looked.ensures.server

pub returns-in-Looked-clause-reached : goal.returns-in-Looked-clause-reached
returns-in-Looked-clause-reached c = λ prompt steps f r. event_told c.args.self.now c.looked.new.self steps (event.Looked c.in-Looked.look) c.in-Looked.is (c.looked.ensures.reached steps r)

pub returns-in-Drew-clause-client : goal.returns-in-Drew-clause-client
returns-in-Drew-clause-client c = c.drew.ensures.client

pub returns-in-Drew-clause-number : goal.returns-in-Drew-clause-number
returns-in-Drew-clause-number c = event_number c.args.self.now.current.number (event.Drew c.in-Drew.pick) c.in-Drew.is c.drew.ensures.number

pub returns-in-Drew-clause-reached : goal.returns-in-Drew-clause-reached
returns-in-Drew-clause-reached c = λ prompt steps f r. event_told c.args.self.now c.drew.new.self steps (event.Drew c.in-Drew.pick) c.in-Drew.is (c.drew.ensures.reached steps r)

pub returns-in-Spent-clause-client : goal.returns-in-Spent-clause-client
returns-in-Spent-clause-client c = c.spent.ensures.client

pub returns-in-Spent-clause-number : goal.returns-in-Spent-clause-number
returns-in-Spent-clause-number c = event_number c.args.self.now.current.number (event.Spent c.in-Spent.node) c.in-Spent.is c.spent.ensures.number

pub returns-in-Spent-clause-going : goal.returns-in-Spent-clause-going
returns-in-Spent-clause-going c = c.spent.ensures.going

pub returns-in-Spent-clause-prompt : goal.returns-in-Spent-clause-prompt
returns-in-Spent-clause-prompt c = λ _. c.spent.ensures.prompt

pub returns-in-Spent-clause-server : goal.returns-in-Spent-clause-server
returns-in-Spent-clause-server c = event_server c.args.self.now c.spent.new.self (event.Spent c.in-Spent.node) c.in-Spent.is c.spent.ensures.server

pub returns-in-Spent-clause-reached : goal.returns-in-Spent-clause-reached
returns-in-Spent-clause-reached c = λ prompt steps f r. event_told c.args.self.now c.spent.new.self steps (event.Spent c.in-Spent.node) c.in-Spent.is (c.spent.ensures.reached steps r)

pub returns-in-Dialled-clause-client : goal.returns-in-Dialled-clause-client
returns-in-Dialled-clause-client c = c.dialled.ensures.client

pub returns-in-Dialled-clause-number : goal.returns-in-Dialled-clause-number
returns-in-Dialled-clause-number c = event_number c.args.self.now.current.number (event.Dialled c.in-Dialled.link) c.in-Dialled.is c.dialled.ensures.number

pub returns-in-Dialled-clause-going : goal.returns-in-Dialled-clause-going
returns-in-Dialled-clause-going c = c.dialled.ensures.going

pub returns-in-Dialled-clause-prompt : goal.returns-in-Dialled-clause-prompt
returns-in-Dialled-clause-prompt c = λ _. c.dialled.ensures.prompt

pub returns-in-Dialled-clause-server : goal.returns-in-Dialled-clause-server
returns-in-Dialled-clause-server c = event_server c.args.self.now c.dialled.new.self (event.Dialled c.in-Dialled.link) c.in-Dialled.is c.dialled.ensures.server

pub returns-in-Dialled-clause-reached : goal.returns-in-Dialled-clause-reached
returns-in-Dialled-clause-reached c = λ prompt steps f r.
    dial_told c.args.self.now c.dialled.new.self steps c.in-Dialled.link c.in-Dialled.is c.requires.enabled f r (λ a is new. c.dialled.ensures.reached steps a is new r)

pub returns-in-Back-clause-client : goal.returns-in-Back-clause-client
returns-in-Back-clause-client c = c.back_step.ensures.client

pub returns-in-Back-clause-number : goal.returns-in-Back-clause-number
returns-in-Back-clause-number c = event_number c.args.self.now.current.number (event.Back c.in-Back.link c.in-Back.event) c.in-Back.is c.back_step.ensures.number

pub returns-in-Back-clause-going : goal.returns-in-Back-clause-going
returns-in-Back-clause-going c = c.back_step.ensures.going

pub returns-in-Back-clause-prompt : goal.returns-in-Back-clause-prompt
returns-in-Back-clause-prompt c = c.back_step.ensures.prompt

pub returns-in-Back-clause-server : goal.returns-in-Back-clause-server
returns-in-Back-clause-server c = event_server c.args.self.now c.back_step.new.self (event.Back c.in-Back.link c.in-Back.event) c.in-Back.is c.back_step.ensures.server

pub returns-in-Back-clause-reached : goal.returns-in-Back-clause-reached
returns-in-Back-clause-reached c = λ prompt steps f r. server_told c.args.self.now c.back_step.new.self steps c.in-Back.link c.in-Back.event c.in-Back.is c.requires.enabled (c.back_step.ensures.reached prompt steps r)

pub returns-in-Took-clause-client : goal.returns-in-Took-clause-client
returns-in-Took-clause-client c = c.took.ensures.client

pub returns-in-Took-clause-number : goal.returns-in-Took-clause-number
returns-in-Took-clause-number c = event_number c.args.self.now.current.number (event.Took c.in-Took.n) c.in-Took.is c.took.ensures.number

pub returns-in-Took-clause-going : goal.returns-in-Took-clause-going
returns-in-Took-clause-going c = c.took.ensures.going

pub returns-in-Took-clause-prompt : goal.returns-in-Took-clause-prompt
returns-in-Took-clause-prompt c = c.took.ensures.prompt

pub returns-in-Took-clause-server : goal.returns-in-Took-clause-server
returns-in-Took-clause-server c = event_server c.args.self.now c.took.new.self (event.Took c.in-Took.n) c.in-Took.is c.took.ensures.server

pub returns-in-Took-clause-reached : goal.returns-in-Took-clause-reached
returns-in-Took-clause-reached c = λ prompt steps f r. event_told c.args.self.now c.took.new.self steps (event.Took c.in-Took.n) c.in-Took.is (c.took.ensures.reached steps r)

pub returns-in-Stop-clause-client : goal.returns-in-Stop-clause-client
returns-in-Stop-clause-client c = c.stop.ensures.client

pub returns-in-Stop-clause-number : goal.returns-in-Stop-clause-number
returns-in-Stop-clause-number c = event_number c.args.self.now.current.number event.Stop c.in-Stop.is c.stop.ensures.number

pub returns-in-Stop-clause-reached : goal.returns-in-Stop-clause-reached
returns-in-Stop-clause-reached c = λ prompt steps f r. event_told c.args.self.now c.stop.new.self steps event.Stop c.in-Stop.is (c.stop.ensures.reached steps r)
