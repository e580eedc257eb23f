use Rattle.std.proofs.Common.{◌≡◌, ◌<◌, ◌∷◌, ◌++◌, [], List, ℕ, length, Result, Ok, refl, sym, ap, subst, arith}
use Rattle.std.specs.Prelude.{IfOk, OnOk}
use Rattle.std.specs.List.{AllByRecursion}
use Rattle.certificates.specs.Valid.{IsPickBefore}
use Rattle.certificates.specs.declared.OrderedPick.{OrderedPick}
use Rattle.certificates.specs.declared.OrderedEvidence.{OrderedEvidence}
use Rattle.evidence_store.specs.State.{StoreState}
use Rattle.evidence_store.specs.Keys.{AreKeysOf}
use Rattle.evidence_store.specs.Numbers.{IsPicked}
use Rattle.evidence_store.specs.Stored.{IsStored, IsWithPick}
use Rattle.evidence_store.proofs.StoredLaws.{stored_more, with_pick}
use Rattle.std.proofs.Math.ListN.{length-set}
use Rattle.net_base.proofs.MemberLaws.{each_append}
use Rattle.evidence_store.proofs.PickLaws.{in_force_more}
use Rattle.evidence_store.proofs.CountLaws.{few_numberings, few_uses}
use Rattle.evidence_store.proofs.EvidenceStore.add.Goals as goal

pub add_pick-added-requires-clause-few_numberings : goal.add_pick-added-requires-clause-few_numberings
add_pick-added-requires-clause-few_numberings c =
    let pick : OrderedPick = record { round = c.args.round; class = c.args.class; shared = 0 } in
    let state = c.store.view_is in
    let behind = subst (λ (s : StoreState). AllByRecursion (λ p. IsPickBefore p pick) s.evidence.picks) (sym state) c.requires.behind in
    let within = subst (λ (s : StoreState). c.args.class < s.classes) (sym state) c.requires.class in
    few_numberings c.store.inside.evidence c.store.invariant.stored (length c.store.inside.in_force.items) pick c.store.invariant.few_classes c.store.invariant.classes behind within c.requires.few_rounds

pub add_pick-added-requires-clause-few_uses : goal.add_pick-added-requires-clause-few_uses
add_pick-added-requires-clause-few_uses c =
    let pick : OrderedPick = record { round = c.args.round; class = c.args.class; shared = 0 } in
    let state = c.store.view_is in
    let behind = subst (λ (s : StoreState). AllByRecursion (λ p. IsPickBefore p pick) s.evidence.picks) (sym state) c.requires.behind in
    let within = subst (λ (s : StoreState). c.args.class < s.classes) (sym state) c.requires.class in
    few_uses c.store.inside.evidence c.store.invariant.stored (length c.store.inside.in_force.items) pick c.store.invariant.few_classes c.store.invariant.classes behind within c.requires.few_rounds

-- what holds where there is a result holds of this one
if_ok : {A E : Type 0} (P : A → Type 0) (r : Result A E) (x : A) → r ≡ Ok x → IfOk r P → P x
if_ok P r x is h = subst (λ q. IfOk q P) is h

on_ok : {A E : Type 0} (X : Type 0) (r : Result A E) (x : A) → r ≡ Ok x → OnOk r X → X
on_ok X r x is h = subst (λ q. OnOk q X) is h

pub invariant_of-store : goal.invariant_of-store
invariant_of-store c =
    let pick : OrderedPick = record { round = c.args.round; class = c.args.class; shared = c.in-Ok.shared } in
    let picked = if_ok (λ (s : ℕ). IsPicked c.store.inside.evidence c.args.numbering c.args.befores (record { round = c.args.round; class = c.args.class; shared = s }) c.add_pick-added.new.evidence)
    c.add_pick-added.result c.in-Ok.shared c.in-Ok.is c.add_pick-added.ensures.pick in
    let used = picked.with_use in
    let same : c.args.self.evidence ≡ c.store.inside.evidence = sym (ap (λ (s : StoreState). s.evidence) c.store.view_is) in
    let behind = subst (λ (e : OrderedEvidence). AllByRecursion (λ p. IsPickBefore p pick) e.picks) same c.requires.behind in
    let count : length c.store.inside.in_force.items ≡ c.args.self.classes = ap (λ (s : StoreState). s.classes) c.store.view_is in
    let within : pick.class < length c.store.inside.in_force.items = let class = c.requires.class in omega arith in
    let picks = picked.used.picks ++ pick ∷ [] in
    let more : picks ≡ c.store.inside.evidence.picks ++ pick ∷ [] = ap (λ (l : List OrderedPick). l ++ pick ∷ []) used.picks in
    let new_picks : c.add_pick-added.new.evidence.picks ≡ picks = ap (λ (e : OrderedEvidence). e.picks) picked.is in
    record {
      stored = subst IsStored (sym picked.is) (stored_more c.store.inside.evidence picked.used c.args.numbering c.args.befores c.in-Ok.shared c.store.invariant.stored used pick picks refl refl behind);
      keys = on_ok (AreKeysOf c.add_pick-added.new.keys c.add_pick-added.new.evidence) c.add_pick-added.result c.in-Ok.shared c.in-Ok.is c.add_pick-added.ensures.keys;
      few_classes = rw length-set c.store.invariant.few_classes;
      classes = rw (new_picks, more, length-set) (each_append (λ p. p.class < length c.store.inside.in_force.items) c.store.inside.evidence.picks (pick ∷ []) c.store.invariant.classes (within, tt));
      in_force = rw new_picks (in_force_more c.store.inside.evidence.picks picks pick c.store.inside.in_force.items more behind c.store.invariant.in_force);
    }

pub returns-in-Ok-clause-pick : goal.returns-in-Ok-clause-pick
returns-in-Ok-clause-pick c =
    let pick : OrderedPick = record { round = c.args.round; class = c.args.class; shared = c.in-Ok.shared } in
    let picked = if_ok (λ (s : ℕ). IsPicked c.store.inside.evidence c.args.numbering c.args.befores (record { round = c.args.round; class = c.args.class; shared = s }) c.add_pick-added.new.evidence)
    c.add_pick-added.result c.in-Ok.shared c.in-Ok.is c.add_pick-added.ensures.pick in
    let same : c.store.inside.evidence ≡ c.args.self.evidence = ap (λ (s : StoreState). s.evidence) c.store.view_is in
    rw (← same)
    (subst (λ (e : OrderedEvidence). IsWithPick c.store.inside.evidence c.args.round c.args.class c.args.numbering c.args.befores e) (sym picked.is)
    (with_pick c.store.inside.evidence picked.used c.args.numbering c.args.befores c.in-Ok.shared c.store.invariant.stored picked.with_use pick (picked.used.picks ++ pick ∷ []) refl refl))
