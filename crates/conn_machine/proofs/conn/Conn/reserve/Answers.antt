use Rattle.std.proofs.Common.{refl}
use Rattle.conn_machine.proofs.Starts.{reached_reserved}
use Rattle.conn_machine.proofs.Events.{still_enabled}
use Rattle.conn_machine.proofs.conn.Conn.reserve.Goals as goal

pub returns-in_err-make_room-clause-reached : goal.returns-in_err-make_room-clause-reached
returns-in_err-make_room-clause-reached c = λ steps r. reached_reserved c.args.self.now.input c.args.self.now.looks c.args.self.now.picks c.args.self.now.backs c.make_room.new.held refl refl refl refl c.make_room.ensures.items r

pub returns-in_err-make_room-2-clause-reached : goal.returns-in_err-make_room-2-clause-reached
returns-in_err-make_room-2-clause-reached c = λ steps r. reached_reserved c.args.self.now.input c.make_room-2.new.held c.args.self.now.picks c.args.self.now.backs c.make_room.new.held refl c.make_room-2.ensures.items refl refl c.make_room.ensures.items r

pub returns-in_err-make_room-3-clause-reached : goal.returns-in_err-make_room-3-clause-reached
returns-in_err-make_room-3-clause-reached c = λ steps r. reached_reserved c.args.self.now.input c.make_room-2.new.held c.make_room-3.new.held c.args.self.now.backs c.make_room.new.held refl c.make_room-2.ensures.items c.make_room-3.ensures.items refl c.make_room.ensures.items r

pub returns-clause-reached : goal.returns-clause-reached
returns-clause-reached c = λ steps r. reached_reserved c.args.self.now.input c.make_room-2.new.held c.make_room-3.new.held c.make_room-4.new.held c.make_room.new.held refl c.make_room-2.ensures.items c.make_room-3.ensures.items c.make_room-4.ensures.items c.make_room.ensures.items r

pub returns-in_err-make_room-clause-enabled : goal.returns-in_err-make_room-clause-enabled
returns-in_err-make_room-clause-enabled c = still_enabled c.args.self.now _ refl refl refl refl refl refl

pub returns-in_err-make_room-2-clause-enabled : goal.returns-in_err-make_room-2-clause-enabled
returns-in_err-make_room-2-clause-enabled c = still_enabled c.args.self.now _ refl refl refl refl refl refl

pub returns-in_err-make_room-3-clause-enabled : goal.returns-in_err-make_room-3-clause-enabled
returns-in_err-make_room-3-clause-enabled c = still_enabled c.args.self.now _ refl refl refl refl refl refl

pub returns-clause-enabled : goal.returns-clause-enabled
returns-clause-enabled c = still_enabled c.args.self.now _ refl refl refl refl refl refl
