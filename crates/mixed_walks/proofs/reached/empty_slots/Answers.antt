use Rattle.std.proofs.Common.{◌<◌, length, take, List, set, get_or, refl, sym, ◌∙◌, subst, arith}
use Rattle.std.proofs.lemmas.List.{take_more, take_all, length-set}
use Rattle.net_base.specs.declared.ids.Place.{Place}
use Rattle.net_base.specs.declared.ids.Vlan.TheVariants.{Untagged}
use Rattle.mixed_walks.proofs.SlotLaws.{AreEmptied, emptied_none, emptied_more}
use Rattle.mixed_walks.proofs.reached.empty_slots.Goals as goal

pub loop-place-init : goal.loop-place-init
loop-place-init c = record { count = refl; taken = emptied_none c.args.slots.now.items }

pub loop-place-preserved : goal.loop-place-preserved
loop-place-preserved c =
    let places = c.args.places.now in
    let i = c.loop-place.place-index in
    let slots = c.loop-place.slots.items in
    let n = c.slot_number.result in
    let nowhere : Place = record { switch = record { 0 = 0 }; port = record { 0 = 0 }; vlan = Untagged } in
    let near : n < length slots = let w = c.slot_number.ensures.within in let k = c.loop-place.invariant.count in let h = c.requires.count in omega arith in
    record {
      count = length-set slots n 0 ∙ c.loop-place.invariant.count;
      taken =
          subst (λ (xs : List Place). AreEmptied c.args.slots.now.items xs (set slots n 0)) (sym (take_more places i nowhere c.loop-place-test.true))
          (emptied_more c.args.slots.now.items (take i places) (get_or places i nowhere) slots n c.slot_number.ensures.number near c.loop-place.invariant.taken);
    }

pub returns : goal.returns
returns c = record {
  count = c.loop-place.invariant.count;
  taken =
      subst (λ (xs : List Place). AreEmptied c.args.slots.now.items xs c.loop-place.slots.items) (take_all c.loop-place.place-index c.args.places.now c.loop-place-test.false)
      c.loop-place.invariant.taken;
}
