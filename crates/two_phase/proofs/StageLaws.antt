-- The rounds that lay the bands and take them away: what the tables hold before each, and what its mixtures may hold.
use Rattle.std.proofs.Common.{◌≡◌, ◌⊎◌, ℕ, zero, suc, ◌+◌, ◌<◌, ◌≤◌, Bool, true, false, List, [], ◌∷◌, ◌++◌, length, max, get_or, subst, inl, inr, arith, length-append}
use Rattle.std.specs.Prelude.{◌==◌, filter, if◌then◌else◌}
use Rattle.std.proofs.lemmas.Bool.{eqb-true, cases_lt}
use Rattle.net_base.specs.Members.{IsIn}
use Rattle.net_base.proofs.MemberLaws.{in_from_filter, in_from_subsequence, each_at, in_append_left, in_append_right}
use Rattle.net_base.specs.declared.ids.SwitchId.{SwitchId}
use Rattle.topology.specs.Networks.{Network, IsNetwork, switch_count, capacity_of}
use Rattle.flow_rules.specs.Patterns.{Header, covers}
use Rattle.flow_rules.specs.Tables.{rules_at, IsTable, IsClear}
use Rattle.flow_rules.specs.declared.rules.Rule.{Rule}
use Rattle.path_walk.specs.UserConfigs.{IsUserConfig, IsUserRule}
use Rattle.update_model.specs.Changes.{switch_of, Applies, changes_at, rules_after, IsGoodRound}
use Rattle.update_model.specs.Mixtures.{IsMixture}
use Rattle.update_model.specs.declared.Change.{Change}
use Rattle.update_model.specs.Mixtures.{is_insert}
use Rattle.two_phase.specs.TwoPhasePlan.{tagged_rules, ingress_rules, two_phase_need}
use Rattle.two_phase.proofs.CountLaws.{tagged_counted, ingress_counted}
use Rattle.two_phase.proofs.TagLaws.{IsTagging}
use Rattle.two_phase.proofs.BandLaws.{tagged_low, tagged_high, ingress_low}
use Rattle.two_phase.proofs.MaskLaws.{IsRaw, IsBanded, HasRaw, HasAll, HasNone}
use Rattle.two_phase.proofs.LabelLaws.{IsOfVersion}
use Rattle.two_phase.proofs.SweepLaws.{made_from, need_within}
use Rattle.update_model.proofs.MatchLaws.{some_filter}
use Rattle.two_phase.proofs.DistinctLaws.{tagged_clear, ingress_clear}

pub in_get_or : {A : Type 0} (xss : List (List A)) (n : ℕ) (x : A) → IsIn x (get_or xss n []) → n < length xss
in_get_or [] n x i = absurd i
in_get_or (xs ∷ xss) zero x i = omega arith
in_get_or (xs ∷ xss) (suc n) x i = let h = in_get_or xss n x i in omega arith

-- where there is no switch, mixtures hold nothing
pub outside_none : (tables : List (List Rule)) (round : List Change) → IsGoodRound tables round → (s : SwitchId) → ¬ (s.0 < length tables) → (mixed : List Rule)
    → IsMixture (rules_at tables s) (changes_at s round) mixed → (r : Rule) → ¬ IsIn r mixed
outside_none tables round good s outside mixed held r i =
    elim (made_from tables round good s held.made held.some r ((held.same r).0 i)) [
      | inl h ↦ outside (in_get_or tables s.0 r h.0)
      | inr w ↦ (
          let (j, e) = in_from_filter (λ c. (switch_of c).0 == s.0) w.0 round (in_from_subsequence w.0 held.made (changes_at s round) held.some w.1) in
          outside (subst (λ n. n < length tables) (eqb-true (switch_of w.0).0 s.0 e) (each_at (Applies tables) round w.0 good.applies j).0))
    ]

module _ (net : Network) (net_is : IsNetwork net) (tags : IsTagging net) (old new : List (List Rule)) (old_user : IsUserConfig net old) (new_user : IsUserConfig net new)
    (mark : SwitchId → Rule → ℕ) (layers : ℕ) where
  abbrev pub tagged : SwitchId → List Rule
  tagged s = tagged_rules net s (rules_at new s)

  abbrev pub ingress : SwitchId → List Rule
  ingress s = ingress_rules net s (rules_at new s)

  -- the rules of a switch: raw ones, the tagged ones if they are laid, and the ingress rules with some marks
  abbrev pub Content : (SwitchId → List Rule) → Bool → List ℕ → SwitchId → Rule → Type 0
  Content raw laid present s r = IsIn r (raw s) ⊎ (((laid ≡ true) × IsIn r (tagged s)) ⊎ (IsIn (mark s r) present × IsIn r (ingress s)))

  -- tables with this content
  pub record Holds (raw : SwitchId → List Rule) (laid : Bool) (present : List ℕ) (tables : List (List Rule)) : Type 0 where
    pub count : length tables ≡ switch_count net
    pub table : (s : SwitchId) → IsTable (rules_at tables s)
    pub from : (s : SwitchId) → s.0 < switch_count net → (r : Rule) → IsIn r (rules_at tables s) → Content raw laid present s r
    pub to : (s : SwitchId) → s.0 < switch_count net → (r : Rule) → Content raw laid present s r → IsIn r (rules_at tables s)

  -- something holds of each mixture of a round at each switch
  abbrev pub OfEach : List (List Rule) → List Change → (SwitchId → List Rule → Type 0) → Type 0
  OfEach tables round P = (s : SwitchId) → s.0 < switch_count net → (mixed : List Rule) → IsMixture (rules_at tables s) (changes_at s round) mixed → P s mixed

  abbrev pub version_tables : Bool → List (List Rule)
  version_tables version = if version then new else old

  -- what a round keeps that is number k from 0
  pub record IsSound (k : ℕ) (tables : List (List Rule)) (round : List Change) : Type 0 where
    pub good : IsGoodRound tables round
    pub clear : (s : SwitchId) (mixed : List Rule) → IsMixture (rules_at tables s) (changes_at s round) mixed → IsClear mixed
    pub fits : (s : SwitchId) → s.0 < switch_count net → length (rules_at tables s) + length (filter is_insert (changes_at s round)) ≤ capacity_of net s
    pub version : Bool
    pub of : IsOfVersion layers k version
    pub banded : OfEach tables round (λ s mixed. IsBanded net s (rules_at new s) mixed)
    pub raws : OfEach tables round (λ s mixed. HasRaw (rules_at (version_tables version) s) mixed) ⊎ ((version ≡ true) × OfEach tables round (λ s mixed. HasAll (ingress s) mixed))
    pub laid : OfEach tables round (λ s mixed. HasAll (tagged s) mixed) ⊎ OfEach tables round (λ s mixed. HasNone (ingress s) mixed)

  raw_not_tagged : (s : SwitchId) (r : Rule) → IsRaw r → ¬ IsIn r (tagged s)
  raw_not_tagged s r low i = let h = tagged_low net s (rules_at new s) (new_user.rules s) r i in absurd (omega arith)

  raw_not_ingress : (s : SwitchId) (r : Rule) → IsRaw r → ¬ IsIn r (ingress s)
  raw_not_ingress s r low i = let h = ingress_low net s (rules_at new s) (new_user.rules s) r i in absurd (omega arith)

  tagged_not_ingress : (s : SwitchId) (r : Rule) → IsIn r (tagged s) → ¬ IsIn r (ingress s)
  tagged_not_ingress s r i j =
      let h = tagged_high net s (rules_at new s) (new_user.rules s) r i in
      let l = ingress_low net s (rules_at new s) (new_user.rules s) r j in
      absurd (omega arith)

  pub raw_low : (version : Bool) (s : SwitchId) (r : Rule) → IsIn r (rules_at (version_tables version) s) → IsRaw r
  raw_low true s r i = (each_at (IsUserRule net s) (rules_at new s) r (new_user.rules s) i).below
  raw_low false s r i = (each_at (IsUserRule net s) (rules_at old s) r (old_user.rules s) i).below

  version_clear : (version : Bool) (s : SwitchId) → IsClear (rules_at (version_tables version) s)
  version_clear true s = new_user.clear s
  version_clear false s = old_user.clear s

  -- with an ingress rule that may be present, each one above it surely is
  abbrev pub IsUpward : List ℕ → List ℕ → Type 0
  IsUpward sure possible =
      (s : SwitchId) → s.0 < switch_count net → (p q : Rule) → IsIn p (ingress s) → IsIn q (ingress s) → (h : Header) → covers p.key.pattern h ≡ true → covers q.key.pattern h ≡ true
      → IsIn (mark s q) possible → q.key.priority < p.key.priority → IsIn (mark s p) sure

  -- a mixture lies between two contents
  pub record IsBetween (raw : SwitchId → List Rule) (laid_surely laid_maybe : Bool) (sure possible : List ℕ) (s : SwitchId) (mixed : List Rule) : Type 0 where
    pub has_tagged : laid_surely ≡ true → HasAll (tagged s) mixed
    pub has_ingress : (r : Rule) → IsIn (mark s r) sure → IsIn r (ingress s) → IsIn r mixed
    pub within : (r : Rule) → IsIn r mixed → Content raw laid_maybe possible s r

  module _ (raw : SwitchId → List Rule) (low : (s : SwitchId) (r : Rule) → IsIn r (raw s) → IsRaw r) (laid_surely laid_maybe : Bool) (sure possible : List ℕ) (upward : IsUpward sure possible)
      (s : SwitchId) (inside : s.0 < switch_count net) (mixed : List Rule) (between : IsBetween raw laid_surely laid_maybe sure possible s mixed) where
    marked : (q : Rule) → IsIn q mixed → IsIn q (ingress s) → IsIn (mark s q) possible
    marked q i g =
        elim (between.within q i) [
          | inl r ↦ absurd (raw_not_ingress s q (low s q r) g)
          | inr b ↦ elim b [ inl t ↦ absurd (tagged_not_ingress s q t.1 g) | inr h ↦ h.0 ]
        ]

    kinds_of : (q : Rule) → IsIn q mixed → IsRaw q ⊎ (IsIn q (tagged s) ⊎ IsIn q (ingress s))
    kinds_of q i = elim (between.within q i) [ inl r ↦ inl (low s q r) | inr b ↦ elim b [ inl t ↦ inr (inl t.1) | inr g ↦ inr (inr g.1) ] ]

    pub banded_from : ((h : Header) (a b : Rule) → IsIn a mixed → IsIn b mixed → IsRaw a → IsRaw b → covers a.key.pattern h ≡ true → covers b.key.pattern h ≡ true → a.key.priority ≡ b.key.priority → a ≡ b)
        → IsBanded net s (rules_at new s) mixed
    banded_from raw_clear = record {
      clear = λ h a b i j c d e. elim (kinds_of a i) [
        | inl la ↦ elim (kinds_of b j) [
          | inl lb ↦ raw_clear h a b i j la lb c d e
          | inr kb ↦ elim kb [
            | inl tb ↦ (let x = tagged_low net s (rules_at new s) (new_user.rules s) b tb in absurd (omega arith))
            | inr gb ↦ (let x = ingress_low net s (rules_at new s) (new_user.rules s) b gb in absurd (omega arith))
          ]
        ]
        | inr ka ↦ elim ka [
          | inl ta ↦ (
              let xa = tagged_low net s (rules_at new s) (new_user.rules s) a ta in
              let ya = tagged_high net s (rules_at new s) (new_user.rules s) a ta in
              elim (kinds_of b j) [
                | inl lb ↦ absurd (omega arith)
                | inr kb ↦ elim kb [
                  | inl tb ↦ tagged_clear net net_is tags s (rules_at new s) (new_user.distinct s) (new_user.clear s) (new_user.rules s) h a b ta tb c d e
                  | inr gb ↦ (let x = ingress_low net s (rules_at new s) (new_user.rules s) b gb in absurd (omega arith))
                ]
              ])
          | inr ga ↦ (
              let xa = ingress_low net s (rules_at new s) (new_user.rules s) a ga in
              elim (kinds_of b j) [
                | inl lb ↦ absurd (omega arith)
                | inr kb ↦ elim kb [
                  | inl tb ↦ (let x = tagged_high net s (rules_at new s) (new_user.rules s) b tb in absurd (omega arith))
                  | inr gb ↦ ingress_clear net net_is tags s (rules_at new s) (new_user.distinct s) (new_user.clear s) (new_user.rules s) h a b ga gb c d e
                ]
              ])
        ]
      ];
      kinds = kinds_of;
      up = λ q p i gq gp h cq cp less. between.has_ingress p (upward s inside p q gp gq h cp cq (marked q i gq) less) gp;
    }

    pub none_ingress : ((n : ℕ) → ¬ IsIn n possible) → HasNone (ingress s) mixed
    none_ingress none q g i = none (mark s q) (marked q i g)

    pub raw_in : (q : Rule) → IsIn q mixed → IsRaw q → IsIn q (raw s)
    raw_in q i lq = elim (between.within q i) [ inl r ↦ r | inr b ↦ elim b [ inl t ↦ absurd (raw_not_tagged s q lq t.1) | inr g ↦ absurd (raw_not_ingress s q lq g.1) ] ]

    pub in_all : (r : Rule) → IsIn r mixed → IsIn r (raw s ++ (tagged s ++ ingress s))
    in_all r i =
        elim (between.within r i) [
          | inl h ↦ in_append_left r (raw s) (tagged s ++ ingress s) h
          | inr b ↦ in_append_right r (raw s) (tagged s ++ ingress s) (elim b [ inl t ↦ in_append_left r (tagged s) (ingress s) t.1 | inr g ↦ in_append_right r (tagged s) (ingress s) g.1 ])
        ]

  module _ (room : (s : SwitchId) → s.0 < switch_count net → two_phase_need net old new s ≤ capacity_of net s) where
    pub room_for : (version : Bool) (s : SwitchId) → s.0 < switch_count net → length (rules_at (version_tables version) s ++ (tagged s ++ ingress s)) ≤ capacity_of net s
    room_for version s inside =
        let h = room s inside in
        let e = length-append (rules_at (version_tables version) s) (tagged s ++ ingress s) in
        let f = length-append (tagged s) (ingress s) in
        let g = smaller version s in
        let t = tagged_counted net s (rules_at new s) in
        let i = ingress_counted net s (rules_at new s) in
        omega arith
      where
        smaller : (version : Bool) (s : SwitchId) → length (rules_at (version_tables version) s) ≤ max (length (rules_at old s)) (length (rules_at new s))
        smaller true s = omega arith
        smaller false s = omega arith

    -- a round that changes bands alone, under the raw rules of a version
    module _ (k : ℕ) (version : Bool) (of : IsOfVersion layers k version) (tables : List (List Rule)) (round : List Change) (good : IsGoodRound tables round) (count : length tables ≡ switch_count net)
        (table : (s : SwitchId) → IsTable (rules_at tables s)) (laid_surely laid_maybe : Bool) (sure possible : List ℕ) (upward : IsUpward sure possible)
        (laying : (laid_surely ≡ true) ⊎ ((n : ℕ) → ¬ IsIn n possible))
        (between : OfEach tables round (λ s mixed. IsBetween (λ t. rules_at (version_tables version) t) laid_surely laid_maybe sure possible s mixed))
        (kept : OfEach tables round (λ s mixed. HasAll (rules_at (version_tables version) s) mixed)) where
      abbrev raw : SwitchId → List Rule
      raw s = rules_at (version_tables version) s

      banded_here : OfEach tables round (λ s mixed. IsBanded net s (rules_at new s) mixed)
      banded_here s inside mixed held =
          let b = between s inside mixed held in
          banded_from raw (raw_low version) laid_surely laid_maybe sure possible upward s inside mixed b (λ h a c i j la lc d e f.
          version_clear version s h a c (raw_in raw (raw_low version) laid_surely laid_maybe sure possible upward s inside mixed b a i la)
          (raw_in raw (raw_low version) laid_surely laid_maybe sure possible upward s inside mixed b c j lc) d e f)

      pub sound_bands : IsSound k tables round
      sound_bands = record {
        good = good;
        clear = λ s mixed held. elim (cases_lt s.0 (switch_count net)) [
          | inl inside ↦ (banded_here s inside mixed held).clear
          | inr outside ↦ λ h a b i. absurd (outside_none tables round good s (λ less. absurd (omega arith)) mixed held a i)
        ];
        fits = λ s inside.
            let made = filter is_insert (changes_at s round) in
            let mixed = rules_after made (rules_at tables s) in
            let held : IsMixture (rules_at tables s) (changes_at s round) mixed = record { made = made; some = some_filter is_insert (changes_at s round); same = λ r. (λ i. i, λ i. i) } in
            let le = need_within tables round good s (table s) (raw s ++ (tagged s ++ ingress s)) (in_all raw (raw_low version) laid_surely laid_maybe sure possible upward s inside mixed (between s inside mixed held)) in
            let room = room_for version s inside in
            omega arith;
        version = version;
        of = of;
        banded = banded_here;
        raws = inl (λ s inside mixed held. record {
          to = raw_in raw (raw_low version) laid_surely laid_maybe sure possible upward s inside mixed (between s inside mixed held);
          from = kept s inside mixed held;
        });
        laid = elim laying [
          | inl surely ↦ inl (λ s inside mixed held. (between s inside mixed held).has_tagged surely)
          | inr none ↦ inr (λ s inside mixed held. none_ingress raw (raw_low version) laid_surely laid_maybe sure possible upward s inside mixed (between s inside mixed held) none)
        ];
      }
