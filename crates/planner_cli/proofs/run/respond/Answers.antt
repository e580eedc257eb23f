use Rattle.std.proofs.Common.{map, string_bytes, inl, inr}
use Rattle.command_base.specs.Replies.{answer_of}
use Rattle.command_base.proofs.DialogueLaws.{leads_early}
use Rattle.planner_cli.specs.Commands.{IsSaid, dialogue_of, asked_view}
use Rattle.planner_cli.proofs.Answered.{leads_asked, lacks_asked, leads_usage, wrote_ends, wrote_all, wrote_front}
use Rattle.planner_cli.proofs.run.respond.Goals as goal

pub returns-in-None-clause-ends : goal.returns-in-None-clause-ends
returns-in-None-clause-ends g c = λ unserved.
    wrote_ends _ (map string_bytes c.args.words.now) _ _ _ _ _ (leads_usage _ (map string_bytes c.args.words.now) _ _ c.in-None.ensures) (λ e. cc) (λ e. cc) _ c.write_answer.ensures.done c.write_answer.ensures.front

pub returns-in-None-clause-all : goal.returns-in-None-clause-all
returns-in-None-clause-all g c = λ unserved. λ settled.
    wrote_all _ (map string_bytes c.args.words.now) _ _ (g.S.Source.selected c.args.source.now) (g.S.Source.taken c.args.source.now) _ (leads_usage _ (map string_bytes c.args.words.now) _ _ c.in-None.ensures) (λ e. cc) (λ e. cc) _ c.write_answer.ensures.done settled

pub returns-in-None-clause-front : goal.returns-in-None-clause-front
returns-in-None-clause-front g c = λ unserved. λ fault.
    wrote_front _ (map string_bytes c.args.words.now) _ _ (g.S.Source.selected c.args.source.now) (g.S.Source.taken c.args.source.now) _ (leads_usage _ (map string_bytes c.args.words.now) _ _ c.in-None.ensures) (λ e. cc) (λ e. cc) (c.write_answer.ensures.front fault)

pub returns-in-Ok-clause-ends : goal.returns-in-Ok-clause-ends
returns-in-Ok-clause-ends g c = λ unserved.
    wrote_ends _ (map string_bytes c.args.words.now) _ _ _ _ (answer_of c.in-Ok.reply) (leads_asked _ _ (asked_view c.in-Some.command) _ _ _ c.in-Some.ensures c.in-Ok.ensures.meets.met) c.in-Ok.reply.no_read_fault c.in-Ok.reply.no_memory _
    (rw (← c.deref.ensures.value) c.write_answer-in-Ok.ensures.done) (rw (← c.deref.ensures.value) c.write_answer-in-Ok.ensures.front)

pub returns-in-Ok-clause-all : goal.returns-in-Ok-clause-all
returns-in-Ok-clause-all g c = λ unserved. λ settled.
    wrote_all _ (map string_bytes c.args.words.now) _ _ _ _ (answer_of c.in-Ok.reply) (leads_asked _ _ (asked_view c.in-Some.command) _ _ _ c.in-Some.ensures c.in-Ok.ensures.meets.met) c.in-Ok.reply.no_read_fault c.in-Ok.reply.no_memory _
    (rw (← c.deref.ensures.value) c.write_answer-in-Ok.ensures.done) settled

pub returns-in-Ok-clause-front : goal.returns-in-Ok-clause-front
returns-in-Ok-clause-front g c = λ unserved. λ fault.
    wrote_front _ (map string_bytes c.args.words.now) _ _ _ _ (answer_of c.in-Ok.reply) (leads_asked _ _ (asked_view c.in-Some.command) _ _ _ c.in-Some.ensures c.in-Ok.ensures.meets.met) c.in-Ok.reply.no_read_fault c.in-Ok.reply.no_memory
    (rw (← c.deref.ensures.value) (c.write_answer-in-Ok.ensures.front fault))

pub returns-in-Err-Says-clause-ends : goal.returns-in-Err-Says-clause-ends
returns-in-Err-Says-clause-ends g c = λ unserved.
    let early = leads_early IsSaid _ _ (dialogue_of (asked_view c.in-Some.command)) _ _ c.in-Err-Says.reply _ _ (rw c.in-Err-Says.field-0-is at c.in-Err-Says.ensures.meets.met) in
    wrote_ends _ (map string_bytes c.args.words.now) _ _ _ _ (answer_of c.in-Err-Says.reply) (leads_asked _ _ (asked_view c.in-Some.command) _ _ _ c.in-Some.ensures early) c.in-Err-Says.reply.no_read_fault c.in-Err-Says.reply.no_memory _
    (rw (← c.deref-in-Err-Says.ensures.value) c.write_answer-in-Err-Says.ensures.done) (rw (← c.deref-in-Err-Says.ensures.value) c.write_answer-in-Err-Says.ensures.front)

pub returns-in-Err-Says-clause-all : goal.returns-in-Err-Says-clause-all
returns-in-Err-Says-clause-all g c = λ unserved. λ settled.
    let early = leads_early IsSaid _ _ (dialogue_of (asked_view c.in-Some.command)) _ _ c.in-Err-Says.reply _ _ (rw c.in-Err-Says.field-0-is at c.in-Err-Says.ensures.meets.met) in
    wrote_all _ (map string_bytes c.args.words.now) _ _ _ _ (answer_of c.in-Err-Says.reply) (leads_asked _ _ (asked_view c.in-Some.command) _ _ _ c.in-Some.ensures early) c.in-Err-Says.reply.no_read_fault c.in-Err-Says.reply.no_memory _
    (rw (← c.deref-in-Err-Says.ensures.value) c.write_answer-in-Err-Says.ensures.done) settled

pub returns-in-Err-Says-clause-front : goal.returns-in-Err-Says-clause-front
returns-in-Err-Says-clause-front g c = λ unserved. λ fault.
    let early = leads_early IsSaid _ _ (dialogue_of (asked_view c.in-Some.command)) _ _ c.in-Err-Says.reply _ _ (rw c.in-Err-Says.field-0-is at c.in-Err-Says.ensures.meets.met) in
    wrote_front _ (map string_bytes c.args.words.now) _ _ _ _ (answer_of c.in-Err-Says.reply) (leads_asked _ _ (asked_view c.in-Some.command) _ _ _ c.in-Some.ensures early) c.in-Err-Says.reply.no_read_fault c.in-Err-Says.reply.no_memory
    (rw (← c.deref-in-Err-Says.ensures.value) (c.write_answer-in-Err-Says.ensures.front fault))

pub returns-in-Err-ReadFault-clause-read_fault : goal.returns-in-Err-ReadFault-clause-read_fault
returns-in-Err-ReadFault-clause-read_fault g c = λ unserved. λ is.
    elim ((rw c.in-Err-ReadFault.field-0-is at c.in-Err-ReadFault.ensures.meets.met).ended) [
      | inl rose ↦ inl rose
      | inr lacks ↦ inr (lacks_asked _ (map string_bytes c.args.words.now) (asked_view c.in-Some.command) c.in-Some.ensures lacks)
    ]
