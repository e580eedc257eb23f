-- Valid evidence, and positions that are guarded for several classes.
use Rattle.std.proofs.Common.{◌≡◌, ℕ, ◌<◌, List, length, Bool, true, [], ◌++◌, Option, None, Some, IfSome, IfNone, sym, ap, subst, ◌∙◌, refl}
use Rattle.std.specs.Prelude.{slice_get, not, if◌then◌else◌}
use Rattle.std.specs.Option.{is_some}
use Rattle.std.proofs.lemmas.Bool.{false≢true}
use Rattle.std.proofs.lemmas.Option.{same_Some}
use Rattle.net_base.specs.Members.{IsIn}
use Rattle.net_base.specs.declared.ids.SwitchId.{SwitchId}
use Rattle.net_base.proofs.MemberLaws.{each_at}
use Rattle.topology.specs.Networks.{Network, switch_count}
use Rattle.acyclic_numbering.specs.Heights.{IsEdge}
use Rattle.acyclic_numbering.specs.declared.Edge.{Edge}
use Rattle.dest_classes.specs.Classes.{IsClass, class_count, ClassList}
use Rattle.dest_classes.specs.declared.Class.{Class}
use Rattle.dest_classes.proofs.MapLaws.{number_fits}
use Rattle.demands.specs.Duties.{ClassDuties, DemandView, PacketDuties, duties_of}
use Rattle.demands.specs.OfClass.{HaveSameDuties}
use Rattle.certificates.specs.Ordered.{positions, IsPickInForce}
use Rattle.certificates.specs.Updates.{Task}
use Rattle.certificates.specs.Certified.{classes_for}
use Rattle.certificates.specs.Valid.{IsValidOrdered, IsValidUse, IsValidPick, IsValidNumbering}
use Rattle.certificates.specs.declared.OrderedEvidence.{OrderedEvidence}
use Rattle.certificates.specs.declared.OrderedPick.{OrderedPick}
use Rattle.certificates.specs.declared.Shared.{Shared}
use Rattle.check_reasons.specs.Positions.{sets_of}
use Rattle.check_reasons.specs.Reasons.{class_duties}
use Rattle.ordered_check.specs.Guarded.{IsGuarded}
use Rattle.ordered_check.specs.Judged.{IsWayRound, AreGuardedBelow, IsFirstWayRound}
use Rattle.ordered_check.specs.declared.guarded.GuardedClass.{GuardedClass}
use Rattle.ordered_check.specs.declared.ways.WayRound.{WayRound}
use Rattle.certificates.proofs.PickLaws.{at_place}

-- ---- valid evidence

module _ (net : Network) (rounds : ℕ) (e : OrderedEvidence) (valid : IsValidOrdered net rounds e) where
  pub valid_use : (use_ : ℕ) (shared : Shared) → slice_get e.uses use_ ≡ Some shared → IsValidUse (length e.numberings) (length e.befores) shared
  valid_use use_ shared is = at_place (IsValidUse (length e.numberings) (length e.befores)) e.uses use_ shared valid.uses is

  pub numbering_length : (i : ℕ) (numbers : List ℕ) → slice_get e.numberings i ≡ Some numbers → length numbers ≡ switch_count net
  numbering_length i numbers is = (at_place (IsValidNumbering net) e.numberings i numbers valid.numberings is).0

  pub use_within : (round n : ℕ) (pick : OrderedPick) → IsPickInForce e.picks round n pick → pick.shared < length e.uses
  use_within round n pick force = (each_at (IsValidPick rounds (length e.uses)) e.picks pick valid.picks force.stands).3

pub class_counted : (classes : ClassList) (d : ClassDuties) (demands : List DemandView) (n : ℕ) (class : Class) → d ≡ record { demands = demands; classes = classes } → IsClass classes n class → n < class_count d.classes
class_counted classes d demands n class is h = subst (λ (x : ClassDuties). n < class_count x.classes) (sym is) (number_fits classes n class h)

carry : {A B C D E : Type 0} (P : A → B → C → D → E → Type 0) (a a' : A) (b b' : B) (c c' : C) (d d' : D) (e e' : E) → a ≡ a' → b ≡ b' → c ≡ c' → d ≡ d' → e ≡ e' → P a b c d e → P a' b' c' d' e'
carry P a a' b b' c c' d d' e e' p q r s u h =
    subst (λ x. P a' b' c' d' x) u (subst (λ x. P a' b' c' x e) s (subst (λ x. P a' b' x d e) r (subst (λ x. P a' x c d e) q (subst (λ x. P x b c d e) p h))))

-- what is found with lists that are those of the case
module _ (class : Class) (steps steps_ : List Edge) (leaving leaving_ : List SwitchId) (demands demands_ : List DemandView) (befores befores_ : List (List ℕ)) (indices indices_ : List ℕ) (p : steps ≡ steps_) (q : leaving ≡ leaving_)
    (r : demands ≡ demands_) (b : befores ≡ befores_) (i : indices ≡ indices_) where
  pub guarded_there : (found : Option WayRound)
      → IfNone found (AreGuardedBelow (IsWayRound class.entry.switch (IsEdge steps) (λ s. IsIn s leaving)) (positions (duties_of demands class.entry class.first).chains (sets_of befores indices)) (length indices))
      → IfNone found (AreGuardedBelow (IsWayRound class.entry.switch (IsEdge steps_) (λ s. IsIn s leaving_)) (positions (duties_of demands_ class.entry class.first).chains (sets_of befores_ indices_)) (length indices_))
  guarded_there found h =
      carry
      (λ (es : List Edge) (ls : List SwitchId) (ds : List DemandView) (bs : List (List ℕ)) (is : List ℕ).
      IfNone found (AreGuardedBelow (IsWayRound class.entry.switch (IsEdge es) (λ s. IsIn s ls)) (positions (duties_of ds class.entry class.first).chains (sets_of bs is)) (length is)))
      steps steps_ leaving leaving_ demands demands_ befores befores_ indices indices_ p q r b i h

  pub first_there : (found : Option WayRound)
      → IfSome found (IsFirstWayRound (IsWayRound class.entry.switch (IsEdge steps) (λ s. IsIn s leaving)) (positions (duties_of demands class.entry class.first).chains (sets_of befores indices)))
      → IfSome found (IsFirstWayRound (IsWayRound class.entry.switch (IsEdge steps_) (λ s. IsIn s leaving_)) (positions (duties_of demands_ class.entry class.first).chains (sets_of befores_ indices_)))
  first_there found h =
      carry
      (λ (es : List Edge) (ls : List SwitchId) (ds : List DemandView) (bs : List (List ℕ)) (is : List ℕ).
      IfSome found (IsFirstWayRound (IsWayRound class.entry.switch (IsEdge es) (λ s. IsIn s ls)) (positions (duties_of ds class.entry class.first).chains (sets_of bs is))))
      steps steps_ leaving leaving_ demands demands_ befores befores_ indices indices_ p q r b i h

-- ---- a class like the one that was guarded

-- what is kept is guarded for each class with its start, use, duties and walks
pub guarded_of_same : (t : Task) (e : OrderedEvidence) (o : Option GuardedClass) (kept of : GuardedClass) (steps steps_ : List Edge) (leaving leaving_ : List SwitchId) → o ≡ Some kept
    → IfSome o (λ x. (class : Class) × IsClass (classes_for t) x.number class × IsGuarded t e x class steps leaving)
    → kept.start ≡ of.start → kept.shared ≡ of.shared → HaveSameDuties (record { demands = t.update.demands; classes = classes_for t }) kept.number of.number → steps ≡ steps_ → leaving ≡ leaving_
    → (class : Class) → IsClass (classes_for t) of.number class → IsGuarded t e of class steps_ leaving_
guarded_of_same t e o kept of steps steps_ leaving leaving_ is held start sharing same steps_are leaving_are class of_class shared at =
    let (one, there, guarded) = subst (λ (y : Option GuardedClass). IfSome y (λ x. (c : Class) × IsClass (classes_for t) x.number c × IsGuarded t e x c steps leaving)) is held in
    let here = guarded shared (subst (λ (i : ℕ). slice_get e.uses i ≡ Some shared) (sym sharing) at) in
    carry
    (λ (es : List Edge) (ls : List SwitchId) (s : SwitchId) (d : PacketDuties) (is : List ℕ).
    AreGuardedBelow (IsWayRound s (IsEdge es) (λ x. IsIn x ls)) (positions d.chains (sets_of e.befores is)) (length is))
    steps steps_ leaving leaving_ kept.start of.start (class_duties t one) (class_duties t class) shared.befores shared.befores steps_are leaving_are start (same one there class of_class) refl here

-- what is kept is a class of the task
pub kept_within : (t : Task) (e : OrderedEvidence) (o : Option GuardedClass) (kept : GuardedClass) (steps : List Edge) (leaving : List SwitchId) → o ≡ Some kept
    → IfSome o (λ x. (class : Class) × IsClass (classes_for t) x.number class × IsGuarded t e x class steps leaving) → kept.number < class_count (classes_for t)
kept_within t e o kept steps leaving is held =
    let (one, there, guarded) = subst (λ (y : Option GuardedClass). IfSome y (λ x. (c : Class) × IsClass (classes_for t) x.number c × IsGuarded t e x c steps leaving)) is held in
    number_fits (classes_for t) kept.number one there

-- the positions of a class are guarded where they were found guarded for its use and its walks
pub guarded_found : (t : Task) (e : OrderedEvidence) (of : GuardedClass) (steps : List Edge) (leaving : List SwitchId) (class : Class) (shared : Shared) → slice_get e.uses of.shared ≡ Some shared
    → AreGuardedBelow (IsWayRound of.start (IsEdge steps) (λ s. IsIn s leaving)) (positions (class_duties t class).chains (sets_of e.befores shared.befores)) (length shared.befores) → IsGuarded t e of class steps leaving
guarded_found t e of steps leaving class shared at held another here =
    subst (λ (x : Shared). AreGuardedBelow (IsWayRound of.start (IsEdge steps) (λ s. IsIn s leaving)) (positions (class_duties t class).chains (sets_of e.befores x.befores)) (length x.befores))
    (same_Some shared another (sym at ∙ here)) held

-- where nothing is found
pub of_none : {A : Type 0} (o : Option A) (none : Bool) (P : Type 0) → IfNone o P → is_some o ≡ not none → none ≡ true → P
of_none None none P p is so = p
of_none (Some x) none P p is so = absurd (false≢true (sym (is ∙ ap not so)))

-- what is kept of other lists that are the same
pub guarded_lists : (t : Task) (e : OrderedEvidence) (of : GuardedClass) (class : Class) (steps steps_ : List Edge) (leaving leaving_ : List SwitchId) → steps ≡ steps_ → leaving ≡ leaving_ → IsGuarded t e of class steps leaving
    → IsGuarded t e of class steps_ leaving_
guarded_lists t e of class steps steps_ leaving leaving_ p q h = subst (λ (ls : List SwitchId). IsGuarded t e of class steps_ ls) q (subst (λ (es : List Edge). IsGuarded t e of class es leaving) p h)

-- a list that was emptied and then extended
pub extended : {A : Type 0} (done : Bool) (new old more : List A) → new ≡ (if done then old ++ more else old) → done ≡ true → old ≡ [] → more ≡ new
extended done new old more is ok empty = sym (is ∙ ap (λ b. if b then old ++ more else old) ok ∙ ap (λ xs. xs ++ more) empty)
