use Rattle.std.proofs.Common.{◌≡◌, ◌+◌, ◌-◌, subst, arith}
use Rattle.class_watch.proofs.LookedLaws.{AreLinked, linked_none, linked_more}
use Rattle.class_watch.proofs.looked.link.Goals as goal

pub loop-atom-init : goal.loop-atom-init
loop-atom-init c = linked_none c.args.marks.now c.args.next.now.items c.requires.count

pub loop-atom-preserved : goal.loop-atom-preserved
loop-atom-preserved c =
    let some = c.loop-atom-test.true in
    let same : c.loop-atom.atom ≡ c.loop-atom.atom - 1 + 1 = omega arith in
    linked_more c.args.marks.now (c.loop-atom.atom - 1) c.loop-atom.first c.first_from-first.result c.loop-atom.next.items
    (subst (λ n. AreLinked c.args.marks.now n c.loop-atom.first c.loop-atom.next.items) same c.loop-atom.invariant) c.first_from-first.ensures.within c.first_from-first.ensures.next

pub returns : goal.returns
returns c = record {
  some = c.requires.some;
  few = c.requires.few;
  count = c.loop-atom.invariant.count;
  each = λ a n at. c.loop-atom.invariant.each a n (omega arith) at;
}
