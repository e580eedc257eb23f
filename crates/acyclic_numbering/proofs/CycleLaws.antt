-- A walk that comes to a switch it has visited closes there.
use Rattle.std.proofs.Common.{◌≡◌, ◌⊎◌, ℕ, zero, suc, Bool, false, List, [], ◌∷◌, ◌++◌, length-set, set, drop, refl, sym, ◌∙◌, subst, ap, inl, inr}
use Rattle.std.specs.Prelude.{slice_get, Some, None}
use Rattle.std.proofs.lemmas.Bool.{cases_eq}
use Rattle.std.proofs.lemmas.List.{get_or-set_other}
use Rattle.net_base.specs.Members.{IsIn}
use Rattle.net_base.specs.Walks.{IsWalk, end_of}
use Rattle.net_base.proofs.WalkLaws.{IsWalk-push, end_of-push}
use Rattle.net_base.proofs.MemberLaws.{in_append_left, in_append_right}
use Rattle.net_base.specs.declared.ids.SwitchId.{SwitchId}
use Rattle.acyclic_numbering.specs.Numbered.{IsOpen, IsWalkedSoFar, IsClosedAt, IsClosedWalk}
use Rattle.net_base.proofs.NameLaws.{same_switch}

module _ (edge : SwitchId → SwitchId → Type 0) where
  closed_here : (start at next : SwitchId) (rest : List SwitchId) → IsWalk edge start rest → end_of start rest ≡ at → start ≡ next → edge at next → IsClosedWalk edge ((start ∷ rest) ++ next ∷ [])
  closed_here start at next [] walk ends same goes = record {
    start = start;
    next = next;
    rest = [];
    is = refl;
    cycle = record { walk = (subst (λ (x : SwitchId). edge x next) (sym ends) goes, tt); closed = sym same };
  }
  closed_here start at next (n ∷ rest) walk ends same goes = record {
    start = start;
    next = n;
    rest = rest ++ next ∷ [];
    is = refl;
    cycle = record {
      walk = IsWalk-push edge start (n ∷ rest) next walk (subst (λ (x : SwitchId). edge x next) (sym ends) goes);
      closed = end_of-push n rest next ∙ sym same;
    };
  }

  closed_from_walk : (p : ℕ) (start at next : SwitchId) (rest : List SwitchId) → IsWalk edge start rest → end_of start rest ≡ at → slice_get (start ∷ rest) p ≡ Some next → edge at next
      → IsClosedWalk edge (drop p (start ∷ rest) ++ next ∷ [])
  closed_from_walk zero start at next rest walk ends is goes = let same : start ≡ next = cc in closed_here start at next rest walk ends same goes
  closed_from_walk (suc p) start at next [] walk ends is goes = absurd (let f : None ≡ Some next = is in cc)
  closed_from_walk (suc p) start at next (n ∷ rest) walk ends is goes = closed_from_walk p n at next rest walk.1 ends is goes

  -- a walk so far, closed where it stands before an edge to one of its switches
  pub closed_at : (pending left : List Bool) (at next : SwitchId) (switches closed : List SwitchId) → IsWalkedSoFar edge pending left at switches → edge at next → IsClosedAt next switches closed
      → IsClosedWalk edge closed
  closed_at pending left at next switches closed so_far goes c =
      let walk : List SwitchId = so_far.start ∷ so_far.rest in
      let found : slice_get walk c.place ≡ Some next = subst (λ (xs : List SwitchId). slice_get xs c.place ≡ Some next) so_far.is c.at in
      subst (IsClosedWalk edge) (sym (c.is ∙ ap (λ (xs : List SwitchId). drop c.place xs ++ next ∷ []) so_far.is))
      (closed_from_walk c.place so_far.start at next so_far.rest so_far.walk so_far.ends found goes)

  -- one switch more
  pub walked_more : (pending left : List Bool) (at next : SwitchId) (switches new : List SwitchId) → IsWalkedSoFar edge pending left at switches → edge at next → IsOpen pending next
      → new ≡ switches ++ next ∷ [] → IsWalkedSoFar edge pending (set left next.0 false) next new
  walked_more pending left at next switches new so_far goes opens is = record {
    start = so_far.start;
    rest = so_far.rest ++ next ∷ [];
    is = is ∙ ap (λ (xs : List SwitchId). xs ++ next ∷ []) so_far.is;
    walk = IsWalk-push edge so_far.start so_far.rest next so_far.walk (subst (λ (x : SwitchId). edge x next) (sym so_far.ends) goes);
    ends = end_of-push so_far.start so_far.rest next;
    at_open = opens;
    count = length-set left next.0 false ∙ so_far.count;
    seen = λ t o. subst (λ (xs : List SwitchId). IsOpen (set left next.0 false) t ⊎ IsIn t xs) (sym is) (elim (cases_eq t.0 next.0) [
      | inl e ↦ inr (in_append_right t switches (next ∷ []) (inl (same_switch t next e)))
      | inr ne ↦ elim (so_far.seen t o) [
        | inl l ↦ inl (get_or-set_other left next.0 t.0 false false ne ∙ l)
        | inr i ↦ inr (in_append_left t switches (next ∷ []) i)
      ]
    ]);
  }
