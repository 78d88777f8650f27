use Rattle.std.proofs.Common.{refl, subst}
use Rattle.link_world.specs.Log.{gave, gave_end}
use Rattle.link_world.specs.Seen.{ReadDid}
use Rattle.link_world.specs.declared.world.LinkRead.{LinkRead}
use Rattle.conn_service.proofs.Wents.{went_event, went_fault, went_quiet, of_client, keeps_open, keeps_same, keeps_ending, ending_from}
use Rattle.conn_service.proofs.client.take_read.Goals as goal

pub returns-in_err-bytes-in-Got-clause-went : goal.returns-in_err-bytes-in-Got-clause-went
returns-in_err-bytes-in-Got-clause-went c = λ s t l m desk linked did lately.
    let seen = subst (λ (r : LinkRead). ReadDid s c.args.conn.now.client.link r c.args.buffer.now t) c.in-Got.is did in
    went_event c.args.conn.now.client.link (gave _) linked (of_client refl) (λ ne. refl) refl seen.2 lately.only
    (keeps_open c.requires.open c.bytes.ensures.client c.bytes.ensures.server c.bytes.ensures.number) c.bytes.ensures.reached

pub returns-in_ok-bytes-in-Got-clause-went : goal.returns-in_ok-bytes-in-Got-clause-went
returns-in_ok-bytes-in-Got-clause-went c = λ s t l m desk linked did lately.
    let seen = subst (λ (r : LinkRead). ReadDid s c.args.conn.now.client.link r c.args.buffer.now t) c.in-Got.is did in
    went_event c.args.conn.now.client.link (gave _) linked (of_client refl) (λ ne. refl) refl seen.2 lately.only
    (keeps_open c.requires.open c.bytes.ensures.client c.bytes.ensures.server c.bytes.ensures.number) c.bytes.ensures.reached

pub returns-in_err-end-in-End-clause-went : goal.returns-in_err-end-in-End-clause-went
returns-in_err-end-in-End-clause-went c = λ s t l m desk linked did lately.
    let seen = subst (λ (r : LinkRead). ReadDid s c.args.conn.now.client.link r c.args.buffer.now t) c.in-End.is did in
    went_event c.args.conn.now.client.link gave_end linked (of_client refl) (λ ne. refl) refl seen lately.only
    (keeps_open c.requires.open c.end.ensures.client c.end.ensures.server c.end.ensures.number) (c.end.ensures.reached c.requires.prompt)

pub returns-in_ok-end-in-End-clause-went : goal.returns-in_ok-end-in-End-clause-went
returns-in_ok-end-in-End-clause-went c = λ s t l m desk linked did lately.
    let seen = subst (λ (r : LinkRead). ReadDid s c.args.conn.now.client.link r c.args.buffer.now t) c.in-End.is did in
    went_event c.args.conn.now.client.link gave_end linked (of_client refl) (λ ne. refl) refl seen lately.only
    (keeps_open c.requires.open c.end.ensures.client c.end.ensures.server c.end.ensures.number) (c.end.ensures.reached c.requires.prompt)

pub returns-in-NotYet-clause-went : goal.returns-in-NotYet-clause-went
returns-in-NotYet-clause-went c = λ s t l m desk linked did lately.
    let seen = subst (λ (r : LinkRead). ReadDid s c.args.conn.now.client.link r c.args.buffer.now t) c.in-NotYet.is did in
    went_quiet c.args.conn.now.client.link linked (of_client refl) seen lately.only
    (keeps_same c.rest.ensures.client c.rest.ensures.current c.rest.ensures.phase c.rest.ensures.stage) c.rest.ensures.reached

pub returns-in-Failed-clause-went : goal.returns-in-Failed-clause-went
returns-in-Failed-clause-went c = λ s t l m desk linked did lately.
    let seen = subst (λ (r : LinkRead). ReadDid s c.args.conn.now.client.link r c.args.buffer.now t) c.in-Failed.is did in
    went_fault c.args.conn.now.client.link linked (of_client refl) seen lately.only
    (keeps_ending (ending_from c.fail.ensures.over tt) c.fail.ensures.client c.fail.ensures.number) c.fail.ensures.reached
