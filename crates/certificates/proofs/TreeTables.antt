-- Tables of rules by prefix alone, with the keys of the new table: what a lookup in them and in their mixtures gives.
use Rattle.std.proofs.Common.{◌≡◌, ◌≢◌, ◌⊎◌, ◌&&◌, ◌≤◌, true, cond, List, [], ◌∷◌, refl, sym, ◌∙◌, subst, ap, inl, inr}
use Rattle.std.specs.Prelude.{None, find}
use Rattle.std.specs.Option.{option_map_or}
use Rattle.std.specs.List.{AllByRecursion}
use Rattle.net_base.specs.Blocks.{Block, in_block}
use Rattle.net_base.specs.Members.{IsIn, IsSameSet}
use Rattle.net_base.proofs.MemberLaws.{in_map, in_from_map, in_filter, in_from_filter, each_at, same_filter}
use Rattle.net_base.specs.declared.ids.SwitchId.{SwitchId}
use Rattle.flow_rules.specs.Patterns.{Header, covers, admits_port, admits_vlan}
use Rattle.flow_rules.specs.Tables.{keys_of, covering_rules, lookup, IsClear, IsTable}
use Rattle.flow_rules.proofs.KeyLaws.{cases_key, key_same}
use Rattle.flow_rules.proofs.LookupLaws.{IsTop, is_top, top_of, matched_is_top, matched_none, lookup_by_set}
use Rattle.flow_rules.specs.declared.rules.VlanTest.TheVariants as test
use Rattle.flow_rules.specs.declared.rules.Key.{Key}
use Rattle.flow_rules.specs.declared.rules.Rule.{Rule}
use Rattle.flow_rules.specs.declared.rules.Action.TheVariants.{Discard}
use Rattle.update_model.specs.Changes.{rules_after_change, AppliesTo}
use Rattle.update_model.specs.declared.Change.TheVariants.{Replace}
use Rattle.update_model.proofs.ChangeLaws.{stands_from_in, in_from_stands}
use Rattle.certificates.specs.Trees.{MatchesPrefixAlone, AreApart}

-- the rules have the keys of the new ones, and no two have one key
pub record Fits (new rules : List Rule) : Type 0 where
  pub keys : IsSameSet (keys_of rules) (keys_of new)
  pub unique : (a b : Rule) → IsIn a rules → IsIn b rules → a.key ≡ b.key → a ≡ b

pub unique_in_table : (rules : List Rule) → IsTable rules → (a b : Rule) → IsIn a rules → IsIn b rules → a.key ≡ b.key → a ≡ b
unique_in_table [] once a b i j e = absurd i
unique_in_table (r ∷ rules) once a b (inl p) (inl q) e = p ∙ sym q
unique_in_table (r ∷ rules) once a b (inl p) (inr j) e = absurd (once.0 (subst (λ k. IsIn k (keys_of rules)) (sym e ∙ ap (λ x. x.key) p) (in_map (λ x. x.key) b rules j)))
unique_in_table (r ∷ rules) once a b (inr i) (inl q) e = absurd (once.0 (subst (λ k. IsIn k (keys_of rules)) (e ∙ ap (λ x. x.key) q) (in_map (λ x. x.key) a rules i)))
unique_in_table (r ∷ rules) once a b (inr i) (inr j) e = unique_in_table rules once.1 a b i j e

-- the key matches any port and any VLAN
abbrev IsAlone : Key → Type 0
IsAlone k = (k.pattern.in_port ≡ None) × (k.pattern.vlan ≡ test.Any)

same_key_from : (a b : Key) → IsAlone a → IsAlone b → a.priority ≡ b.priority → a.pattern.dst ≡ b.pattern.dst → a ≡ b
same_key_from a b x y priority dst =
    key_same a b priority (x.0 ∙ sym y.0) (x.1 ∙ sym y.1) (ap (λ (d : Block). d.base) dst) (ap (λ (d : Block). d.len) dst)

covers_alone : (k : Key) (h : Header) → IsAlone k → covers k.pattern h ≡ in_block k.pattern.dst h.dst
covers_alone k h alone =
    ap (λ p. admits_port p h.port && admits_vlan k.pattern.vlan h.vlan && in_block k.pattern.dst h.dst) alone.0
    ∙ ap (λ v. admits_vlan v h.vlan && in_block k.pattern.dst h.dst) alone.1

-- rules that cover two packets alike have one lookup for both
covering_alike : (h g : Header) (rules : List Rule) → ((r : Rule) → IsIn r rules → covers r.key.pattern h ≡ covers r.key.pattern g) → covering_rules h rules ≡ covering_rules g rules
covering_alike h g [] alike = refl
covering_alike h g (r ∷ rules) alike =
    ap (λ t. cond t (r ∷ covering_rules h rules) (covering_rules h rules)) (alike r (inl refl))
    ∙ ap (λ rs. cond (covers r.key.pattern g) (r ∷ rs) rs) (covering_alike h g rules (λ q i. alike q (inr i)))

lookup_alike : (h g : Header) (rules : List Rule) → ((r : Rule) → IsIn r rules → covers r.key.pattern h ≡ covers r.key.pattern g) → lookup h rules ≡ lookup g rules
lookup_alike h g rules alike = ap (λ rs. option_map_or (λ r. r.action) (find (is_top rs) rs) Discard) (covering_alike h g rules alike)

module _ (blocks : List Block) (apart : (a b : Block) → IsIn a blocks → IsIn b blocks → AreApart a b)
    (new : List Rule) (alone : AllByRecursion MatchesPrefixAlone new) (within : (r : Rule) → IsIn r new → IsIn r.key.pattern.dst blocks) where
  key_facts : (k : Key) → IsIn k (keys_of new) → IsAlone k × IsIn k.pattern.dst blocks
  key_facts k i =
      let (q, j, e) = in_from_map (λ r. r.key) k new i in
      (subst IsAlone (sym e) (each_at MatchesPrefixAlone new q alone j), subst (λ x. IsIn x.pattern.dst blocks) (sym e) (within q j))

  module _ (rules : List Rule) (fits : Fits new rules) where
    rule_facts : (r : Rule) → IsIn r rules → IsAlone r.key × IsIn r.key.pattern.dst blocks
    rule_facts r i = key_facts r.key ((fits.keys r.key).0 (in_map (λ x. x.key) r rules i))

    pub clear : IsClear rules
    clear h a b i j ca cb same =
        let x = rule_facts a i in
        let y = rule_facts b j in
        elim (apart a.key.pattern.dst b.key.pattern.dst x.1 y.1) [
          | inl e ↦ fits.unique a b i j (same_key_from a.key b.key x.0 y.0 same e)
          | inr never ↦ absurd (never h.dst (sym (covers_alone a.key h x.0) ∙ ca) (sym (covers_alone b.key h y.0) ∙ cb))
        ]

    -- the lookup sees nothing of a packet but which of the prefixes have its address
    pub lookup_by_address : (h g : Header) → ((b : Block) → IsIn b blocks → in_block b h.dst ≡ in_block b g.dst) → lookup h rules ≡ lookup g rules
    lookup_by_address h g alike =
        lookup_alike h g rules (λ r i. let x = rule_facts r i in covers_alone r.key h x.0 ∙ alike r.key.pattern.dst x.1 ∙ sym (covers_alone r.key g x.0))

    -- the same rules in another list
    pub fits_same : (mixed : List Rule) → IsSameSet mixed rules → Fits new mixed
    fits_same mixed same = record {
      keys = λ k. (
        λ i. let (r, j, e) = in_from_map (λ x. x.key) k mixed i in (fits.keys k).0 (subst (λ x. IsIn x (keys_of rules)) (sym e) (in_map (λ x. x.key) r rules ((same r).0 j))),
        λ i. let (r, j, e) = in_from_map (λ x. x.key) k rules ((fits.keys k).1 i) in subst (λ x. IsIn x (keys_of mixed)) (sym e) (in_map (λ x. x.key) r mixed ((same r).1 j)),
      );
      unique = λ a b i j e. fits.unique a b ((same a).0 i) ((same b).0 j) e;
    }

  pub lookup_same_set : (rules mixed : List Rule) → Fits new rules → IsSameSet mixed rules → (h : Header) → lookup h mixed ≡ lookup h rules
  lookup_same_set rules mixed fits same h =
      lookup_by_set h mixed rules (clear mixed (fits_same rules fits mixed same)) (clear rules fits) (same_filter (λ r. covers r.key.pattern h) mixed rules same)

  -- the key of greatest priority that covers a packet
  pub record IsTopKey (h : Header) (k : Key) : Type 0 where
    pub stands : IsIn k (keys_of new)
    pub covered : covers k.pattern h ≡ true
    pub most : (q : Key) → IsIn q (keys_of new) → covers q.pattern h ≡ true → q.priority ≤ k.priority

  abbrev IsUncovered : Header → Type 0
  IsUncovered h = (q : Key) → IsIn q (keys_of new) → ¬ (covers q.pattern h ≡ true)

  top_or_none : (h : Header) → ((k : Key) × IsTopKey h k) ⊎ IsUncovered h
  top_or_none h = found (covering_rules h new) refl
    where
      found : (zs : List Rule) → zs ≡ covering_rules h new → ((k : Key) × IsTopKey h k) ⊎ IsUncovered h
      found [] e = inr (λ q i c.
          let (r, j, f) = in_from_map (λ x. x.key) q new i in
          subst (IsIn r) (sym e) (in_filter (λ x. covers x.key.pattern h) r new j (subst (λ x. covers x.pattern h ≡ true) f c)))
      found (z ∷ zs) e =
          let (m, i, most) = top_of z zs in
          let (j, c) = in_from_filter (λ x. covers x.key.pattern h) m new (subst (IsIn m) e i) in
          let greatest : (q : Key) → IsIn q (keys_of new) → covers q.pattern h ≡ true → q.priority ≤ m.key.priority = λ q k d.
          let (r, l, f) = in_from_map (λ x. x.key) q new k in
          let le : r.key.priority ≤ m.key.priority = most r (subst (IsIn r) (sym e) (in_filter (λ x. covers x.key.pattern h) r new l (subst (λ x. covers x.pattern h ≡ true) f d))) in
          subst (λ x. x.priority ≤ m.key.priority) (sym f) le in
          inl (m.key, record { stands = in_map (λ x. x.key) m new j; covered = c; most = greatest })

  module _ (rules : List Rule) (fits : Fits new rules) (h : Header) where
    lookup_at : (k : Key) → IsTopKey h k → (r : Rule) → IsIn r rules → r.key ≡ k → lookup h rules ≡ r.action
    lookup_at k top r i e =
        let highest : IsTop (covering_rules h rules) r = λ q j.
        let (l, c) = in_from_filter (λ x. covers x.key.pattern h) q rules j in
        let le : q.key.priority ≤ k.priority = top.most q.key ((fits.keys q.key).0 (in_map (λ x. x.key) q rules l)) c in
        subst (λ x. q.key.priority ≤ x.priority) (sym e) le in
        ap (λ m. option_map_or (λ x. x.action) m Discard)
        (matched_is_top h rules (clear rules fits) r (in_filter (λ x. covers x.key.pattern h) r rules i (subst (λ x. covers x.pattern h ≡ true) (sym e) top.covered)) highest)

    rule_at : (k : Key) → IsTopKey h k → (r : Rule) × IsIn r rules × (r.key ≡ k)
    rule_at k top = let (r, i, e) = in_from_map (λ x. x.key) k rules ((fits.keys k).1 top.stands) in (r, i, sym e)

    lookup_uncovered : IsUncovered h → lookup h rules ≡ Discard
    lookup_uncovered none =
        ap (λ m. option_map_or (λ x. x.action) m Discard)
        (matched_none h rules (λ q i. let (j, c) = in_from_filter (λ x. covers x.key.pattern h) q rules i in none q.key ((fits.keys q.key).0 (in_map (λ x. x.key) q rules j)) c))

  -- the new rules fit themselves
  pub fits_new : IsTable new → Fits new new
  fits_new once = record { keys = λ k. (λ i. i, λ i. i); unique = unique_in_table new once }

  -- where a lookup differs from the new one, so does the rule that matches
  pub record DiffersAt (rules : List Rule) (h : Header) : Type 0 where
    pub now : Rule
    pub next : Rule
    pub stands : IsIn now rules
    pub wanted : IsIn next new
    pub same_key : now.key ≡ next.key
    pub differs : now.action ≢ next.action
    pub has : in_block next.key.pattern.dst h.dst ≡ true

  module _ (once : IsTable new) (rules : List Rule) (fits : Fits new rules) where
    pub differs_at : (h : Header) → ¬ (lookup h rules ≡ lookup h new) → DiffersAt rules h
    differs_at h ne =
        elim (top_or_none h) [
          | inl (k, top) ↦ (
              let (r, i, e) = rule_at rules fits h k top in
              let (q, j, f) = rule_at new (fits_new once) h k top in
              let facts = key_facts k top.stands in
              record {
                now = r;
                next = q;
                stands = i;
                wanted = j;
                same_key = e ∙ sym f;
                differs = λ same. ne (lookup_at rules fits h k top r i e ∙ same ∙ sym (lookup_at new (fits_new once) h k top q j f));
                has = subst (λ x. in_block x.pattern.dst h.dst ≡ true) (sym f) (sym (covers_alone k h facts.0) ∙ top.covered);
              })
          | inr none ↦ absurd (ne (lookup_uncovered rules fits h none ∙ sym (lookup_uncovered new (fits_new once) h none)))
        ]

    module _ (s : SwitchId) (next : Rule) (wanted : IsIn next new) where
      abbrev after : List Rule
      after = rules_after_change (Replace s next) rules

      applies : AppliesTo rules (Replace s next)
      applies = (fits.keys next.key).1 (in_map (λ x. x.key) next new wanted)

      from_after : (r : Rule) → IsIn r after → (IsIn r rules × ¬ (r.key ≡ next.key)) ⊎ (r ≡ next)
      from_after r i = stands_from_in rules (Replace s next) r applies i

      next_after : IsIn next after
      next_after = in_from_stands rules (Replace s next) next applies (inr refl)

      -- after a replace by a new rule the rules still fit
      pub fits_after : Fits new after
      fits_after = record {
        keys = λ k. (
          λ i.
              let (r, j, e) = in_from_map (λ x. x.key) k after i in
              elim (from_after r j) [
                | inl h ↦ (fits.keys k).0 (subst (λ x. IsIn x (keys_of rules)) (sym e) (in_map (λ x. x.key) r rules h.0))
                | inr f ↦ subst (λ x. IsIn x (keys_of new)) (sym (e ∙ ap (λ x. x.key) f)) (in_map (λ x. x.key) next new wanted)
              ],
          λ i.
              elim (cases_key k next.key) [
                | inl e ↦ subst (λ x. IsIn x (keys_of after)) (sym e) (in_map (λ x. x.key) next after next_after)
                | inr ne ↦ (
                    let (r, j, e) = in_from_map (λ x. x.key) k rules ((fits.keys k).1 i) in
                    subst (λ x. IsIn x (keys_of after)) (sym e) (in_map (λ x. x.key) r after (in_from_stands rules (Replace s next) r applies (inl (j, λ f. ne (e ∙ f))))))
              ],
        );
        unique = λ a b i j e.
            elim (from_after a i) [
              | inl x ↦ elim (from_after b j) [
                | inl y ↦ fits.unique a b x.0 y.0 e
                | inr q ↦ absurd (x.1 (e ∙ ap (λ z. z.key) q))
              ]
              | inr p ↦ elim (from_after b j) [
                | inl y ↦ absurd (y.1 (sym e ∙ ap (λ z. z.key) p))
                | inr q ↦ p ∙ sym q
              ]
            ];
      }

      -- the lookup is what it was, or the new one for an address of the rule's prefix
      pub lookup_after : (h : Header) → (lookup h after ≡ lookup h rules) ⊎ ((in_block next.key.pattern.dst h.dst ≡ true) × (lookup h after ≡ lookup h new))
      lookup_after h =
          elim (top_or_none h) [
            | inl (k, top) ↦ elim (cases_key next.key k) [
              | inl e ↦ (
                  let facts = key_facts k top.stands in
                  inr (
                    subst (λ x. in_block x.pattern.dst h.dst ≡ true) (sym e) (sym (covers_alone k h facts.0) ∙ top.covered),
                    lookup_at after fits_after h k top next next_after e ∙ sym (lookup_at new (fits_new once) h k top next wanted e),
                  ))
              | inr ne ↦ (
                  let (r, i, f) = rule_at rules fits h k top in
                  let j = in_from_stands rules (Replace s next) r applies (inl (i, λ g. ne (sym g ∙ f))) in
                  inl (lookup_at after fits_after h k top r j f ∙ sym (lookup_at rules fits h k top r i f)))
            ]
            | inr none ↦ inl (lookup_uncovered after fits_after h none ∙ sym (lookup_uncovered rules fits h none))
          ]
