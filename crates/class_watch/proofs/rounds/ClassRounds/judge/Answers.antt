use Rattle.std.proofs.Common.{◌≡◌, ℕ, Bool, List, length, sym, ◌∙◌, ap, subst, arith}
use Rattle.std.specs.Prelude.{slice_get}
use Rattle.std.specs.Vec.{with_items}
use Rattle.std.proofs.lemmas.List.{with_items_is}
use Rattle.dest_classes.specs.declared.Class.{Class}
use Rattle.class_watch.specs.Judges.{HasRoomFor, ArePassedOver}
use Rattle.class_watch.proofs.MarkLaws.{held_at, walks_all}
use Rattle.class_watch.proofs.rounds.ClassRounds.judge.Goals as goal

pub mark_unmet-requires-clause-room : goal.mark_unmet-requires-clause-room
mark_unmet-requires-clause-room g c =
    let map = (g.J.ClassJudge.judged c.args.judge.now).classes in
    let room = c.requires.room in
    subst (λ (cs : List Class). HasRoomFor map cs c.deref-2.result.now c.deref_mut.result.now) (sym c.deref.ensures.value)
    (subst (λ (xs : List ℕ). HasRoomFor map c.args.self.now.classes.items xs c.deref_mut.result.now) (sym c.deref-2.ensures.value)
    (subst (HasRoomFor map c.args.self.now.classes.items c.args.self.now.came.items) (sym c.deref_mut.ensures.value) room))

pub mark_unmet-requires-clause-looked : goal.mark_unmet-requires-clause-looked
mark_unmet-requires-clause-looked g c =
    subst (λ (cs : List Class). ArePassedOver (g.J.ClassJudge.judged c.args.judge.now) (g.J.ClassJudge.stands c.args.judge.now) cs c.args.looked.now) (sym c.deref.ensures.value) c.requires.looked

pub settle-requires-clause-kept : goal.settle-requires-clause-kept
settle-requires-clause-kept g c =
    let good = c.args.self.now.good in
    let new_good = c.mark_unmet.new.good in
    let good_are : (with_items good new_good).items ≡ new_good = with_items_is good new_good (c.mark_unmet.ensures.count ∙ c.deref_mut.ensures.len) in
    let count : length (with_items good new_good).items ≡ length good.items = ap (λ (bs : List Bool). length bs) good_are ∙ c.mark_unmet.ensures.count ∙ ap (λ (bs : List Bool). length bs) c.deref_mut.ensures.value in
    record {
      room = record { classes_are = c.requires.room.classes_are; sets = c.requires.room.sets; marks = count ∙ c.requires.room.marks; few = c.requires.room.few };
      held = λ n class them is came_is good_is.
          let unmet =
          c.mark_unmet.ensures.each n class them (ap (λ (cs : List Class). slice_get cs n) c.deref.ensures.value ∙ is) (ap (λ (xs : List ℕ). slice_get xs n) c.deref-2.ensures.value ∙ came_is)
          (ap (λ (bs : List Bool). slice_get bs n) (sym good_are) ∙ good_is) in
          c.keeps_held.ensures.unmet n class them (c.requires.room.classes_are.each n class is) unmet (c.requires.walks n class them is came_is);
    }

pub judge_rest-requires-clause-over : goal.judge_rest-requires-clause-over
judge_rest-requires-clause-over g c n less off =
    let good = c.args.self.now.good in
    let new_good = c.mark_unmet.new.good in
    let good_are : (with_items good new_good).items ≡ new_good = with_items_is good new_good (c.mark_unmet.ensures.count ∙ c.deref_mut.ensures.len) in
    let marks = c.settle.ensures.kept.room.marks in
    let was = c.requires.room.marks in
    let count = c.mark_unmet.ensures.count in
    let len = c.deref_mut.ensures.len in
    c.settle.ensures.marked n (ap (λ (bs : List Bool). slice_get bs n) good_are ∙ c.mark_unmet.ensures.over n (omega arith) off)

pub judge_rest-requires-clause-told : goal.judge_rest-requires-clause-told
judge_rest-requires-clause-told g c = c.settle.ensures.told 0 c.requires.told

pub returns-clause-walks : goal.returns-clause-walks
returns-clause-walks g c =
    let at = g.J.ClassJudge.judged c.args.judge.now in
    let new = c.judge_rest.new.self in
    walks_all at new.classes.items new.came.items c.judge_rest.ensures.kept.room.classes_are c.judge_rest.ensures.walks

pub returns-clause-held : goal.returns-clause-held
returns-clause-held g c n class is on =
    let at = g.J.ClassJudge.judged c.args.judge.now in
    let new = c.judge_rest.new.self in
    held_at at (g.J.ClassJudge.holds c.args.judge.now) new.classes.items new.came.items new.good.items c.judge_rest.ensures.kept.room c.judge_rest.ensures.kept.held n class is on
