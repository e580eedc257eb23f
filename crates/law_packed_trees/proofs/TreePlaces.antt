-- The new paths of a tree update: each leaves or is dropped at its entry, and how many of its lookups aren't new yet.
use Rattle.std.proofs.Common.{◌≡◌, ◌⊎◌, ℕ, suc, ◌<◌, ◌≤◌, Bool, true, false, cond, not, List, [], ◌∷◌, length, refl, sym, ◌∙◌, subst, ap, inl, inr, arith}
use Rattle.std.specs.Prelude.{filter}
use Rattle.std.specs.List.{AllByRecursion}
use Rattle.net_base.specs.Members.{IsIn, IsDistinct}
use Rattle.net_base.specs.Walks.{IsWalk, end_of}
use Rattle.net_base.specs.declared.ids.Place.{Place}
use Rattle.flow_rules.specs.Same.{action_eq}
use Rattle.flow_rules.specs.Tables.{rules_at, lookup}
use Rattle.flow_rules.proofs.TableLaws.{action_eq-true, action_eq-refl}
use Rattle.flow_rules.specs.declared.rules.Rule.{Rule}
use Rattle.path_walk.specs.Outcomes.{header_at}
use Rattle.path_walk.specs.Paths.{Trace, IsPath, IsEnd, ended_by, outcome_in}
use Rattle.path_walk.specs.declared.Outcome.{Outcome}
use Rattle.path_walk.specs.declared.Outcome.TheVariants.{Go}
use Rattle.topology.specs.Networks.{Network}
use Rattle.certificates.specs.Steps.{switches_along}
use Rattle.certificates.proofs.TreeWalks.{Steps}

-- fewer pass where one that passed doesn't
module _ {A : Type 0} (p q : A → Bool) (weaker : (x : A) → q x ≡ true → p x ≡ true) where
  fewer_at : (x : A) (xs ps qs : List A) → length qs ≤ length ps → length (cond (q x) (x ∷ qs) qs) ≤ length (cond (p x) (x ∷ ps) ps)
  fewer_at x xs ps qs le =
      elim (q x) as (λ b. q x ≡ b → length (cond b (x ∷ qs) qs) ≤ length (cond (p x) (x ∷ ps) ps)) [
        | true ↦ λ e. subst (λ b. suc (length qs) ≤ length (cond b (x ∷ ps) ps)) (sym (weaker x e)) (omega arith)
        | false ↦ λ _. elim (p x) as (λ b. length qs ≤ length (cond b (x ∷ ps) ps)) [ true ↦ omega arith | false ↦ le ]
      ] refl

  pub fewer_pass : (xs : List A) → length (filter q xs) ≤ length (filter p xs)
  fewer_pass [] = omega arith
  fewer_pass (x ∷ xs) = fewer_at x xs (filter p xs) (filter q xs) (fewer_pass xs)

  pub one_fewer_passes : (y : A) → p y ≡ true → q y ≡ false → (xs : List A) → IsIn y xs → length (filter q xs) < length (filter p xs)
  one_fewer_passes y passes ne [] i = absurd i
  one_fewer_passes y passes ne (x ∷ xs) (inl e) =
      let most = fewer_pass xs in
      subst (λ b. length (cond b (x ∷ filter q xs) (filter q xs)) < length (cond (p x) (x ∷ filter p xs) (filter p xs))) (sym (subst (λ z. q z ≡ false) e ne))
      (subst (λ b. length (filter q xs) < length (cond b (x ∷ filter p xs) (filter p xs))) (sym (subst (λ z. p z ≡ true) e passes)) (omega arith))
  one_fewer_passes y passes ne (x ∷ xs) (inr i) =
      let less = one_fewer_passes y passes ne xs i in
      elim (q x) as (λ b. q x ≡ b → length (cond b (x ∷ filter q xs) (filter q xs)) < length (cond (p x) (x ∷ filter p xs) (filter p xs))) [
        | true ↦ λ e. subst (λ b. suc (length (filter q xs)) < length (cond b (x ∷ filter p xs) (filter p xs))) (sym (weaker x e)) (omega arith)
        | false ↦ λ _. elim (p x) as (λ b. length (filter q xs) < length (cond b (x ∷ filter p xs) (filter p xs))) [ true ↦ omega arith | false ↦ less ]
      ] refl

pub none_pass : {A : Type 0} (p : A → Bool) (xs : List A) → length (filter p xs) ≤ 0 → AllByRecursion (λ x. p x ≡ false) xs
none_pass p [] le = tt
none_pass p (x ∷ xs) le =
    elim (p x) as (λ b. p x ≡ b → length (cond b (x ∷ filter p xs) (filter p xs)) ≤ 0 → (p x ≡ false) × AllByRecursion (λ y. p y ≡ false) xs) [
      | true ↦ λ e more. absurd (omega arith)
      | false ↦ λ e more. (e, none_pass p xs more)
    ] refl le

-- the last of some places that doesn't have a property
module _ (out : Place → Outcome) (Holds : Place → Type 0) (test : (p : Place) → Holds p ⊎ (¬ Holds p)) where
  pub record LastWithout (start : Place) (rest : List Place) : Type 0 where
    pub first : Place
    pub after : List Place
    pub stands : IsIn first (start ∷ rest)
    pub walk : IsWalk (Steps out) first after
    pub same_end : end_of first after ≡ end_of start rest
    pub distinct : IsDistinct (switches_along first after)
    pub differs : ¬ Holds first
    pub agree : AllByRecursion Holds after

  pub last_without : (start : Place) (rest : List Place) → IsWalk (Steps out) start rest → IsDistinct (switches_along start rest) → AllByRecursion Holds (start ∷ rest) ⊎ LastWithout start rest
  last_without start [] walk once =
      elim (test start) [
        | inl h ↦ inl (h, tt)
        | inr ne ↦ inr (record { first = start; after = []; stands = inl refl; walk = tt; same_end = refl; distinct = once; differs = ne; agree = tt })
      ]
  last_without start (r ∷ rest) walk once =
      elim (last_without r rest walk.1 once.1) [
        | inl all ↦ elim (test start) [
          | inl h ↦ inl (h, all)
          | inr ne ↦ inr (record { first = start; after = r ∷ rest; stands = inl refl; walk = walk; same_end = refl; distinct = once; differs = ne; agree = all })
        ]
        | inr l ↦ inr (record { first = l.first; after = l.after; stands = inr l.stands; walk = l.walk; same_end = l.same_end; distinct = l.distinct; differs = l.differs; agree = l.agree })
      ]

-- two walks by outcomes that end are the same
pub one_walk : (out : Place → Outcome) (start : Place) (xs ys : List Place) → IsWalk (Steps out) start xs → IsWalk (Steps out) start ys
    → ((next : Place) → ¬ (out (end_of start xs) ≡ Go next)) → ((next : Place) → ¬ (out (end_of start ys) ≡ Go next)) → xs ≡ ys
one_walk out start [] [] a b x_ends y_ends = refl
one_walk out start [] (y ∷ ys) a b x_ends y_ends = absurd (x_ends y b.0)
one_walk out start (x ∷ xs) [] a b x_ends y_ends = absurd (y_ends x a.0)
one_walk out start (x ∷ xs) (y ∷ ys) a b x_ends y_ends =
    let e : Go x ≡ Go y = sym a.0 ∙ b.0 in
    let f : x ≡ y = cc in
    ap (λ z. z ∷ xs) f
    ∙ ap (λ zs. y ∷ zs) (one_walk out y xs ys (subst (λ z. IsWalk (Steps out) z xs) f a.1) b.1 (λ next g. x_ends next (subst (λ z. out (end_of z xs) ≡ Go next) (sym f) g)) y_ends)

-- a path ends where nothing goes on
pub path_ends : (net : Network) (tables : List (List Rule)) (entry : Place) (dst : ℕ) (trace : Trace) → (path : IsPath net tables entry dst trace)
    → (next : Place) → ¬ (outcome_in net tables (end_of entry path.rest) dst ≡ Go next)
path_ends net tables entry dst trace path next e = subst IsEnd (path.ended ∙ ap (ended_by (end_of entry path.rest)) e) path.ends

-- the lookups at a place in two sets of tables
module _ (now new : List (List Rule)) (dst : ℕ) where
  abbrev pub Agrees : Place → Type 0
  Agrees p = lookup (header_at p dst) (rules_at now p.switch) ≡ lookup (header_at p dst) (rules_at new p.switch)

  abbrev differ : Place → Bool
  differ p = not (action_eq (lookup (header_at p dst) (rules_at now p.switch)) (lookup (header_at p dst) (rules_at new p.switch)))

  same_actions : (p : Place) → Agrees p → action_eq (lookup (header_at p dst) (rules_at now p.switch)) (lookup (header_at p dst) (rules_at new p.switch)) ≡ true
  same_actions p same = subst (λ a. action_eq a (lookup (header_at p dst) (rules_at new p.switch)) ≡ true) (sym same) (action_eq-refl (lookup (header_at p dst) (rules_at new p.switch)))

  pub cases_agree : (p : Place) → Agrees p ⊎ (¬ Agrees p)
  cases_agree p =
      elim (action_eq (lookup (header_at p dst) (rules_at now p.switch)) (lookup (header_at p dst) (rules_at new p.switch))) as
      (λ b. action_eq (lookup (header_at p dst) (rules_at now p.switch)) (lookup (header_at p dst) (rules_at new p.switch)) ≡ b → Agrees p ⊎ (¬ Agrees p)) [
        | true ↦ λ e. inl (action_eq-true _ _ e)
        | false ↦ λ e. inr (λ same. absurd (let f : true ≡ false = sym (same_actions p same) ∙ e in cc))
      ] refl

  pub differ_false : (p : Place) → Agrees p → differ p ≡ false
  differ_false p same = ap not (same_actions p same)

  pub differ_true : (p : Place) → ¬ Agrees p → differ p ≡ true
  differ_true p ne =
      elim (action_eq (lookup (header_at p dst) (rules_at now p.switch)) (lookup (header_at p dst) (rules_at new p.switch))) as
      (λ b. action_eq (lookup (header_at p dst) (rules_at now p.switch)) (lookup (header_at p dst) (rules_at new p.switch)) ≡ b → not b ≡ true) [
        | true ↦ λ e. absurd (ne (action_eq-true _ _ e))
        | false ↦ λ _. refl
      ] refl

  pub agrees_from : (p : Place) → differ p ≡ false → Agrees p
  agrees_from p e = elim (cases_agree p) [ inl same ↦ same | inr ne ↦ absurd (let f : true ≡ false = sym (differ_true p ne) ∙ e in cc) ]
