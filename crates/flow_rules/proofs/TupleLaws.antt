-- A space of patterns leads to each pattern of a slot, and a pattern that covers a packet is the packet's own for its kind.
use Rattle.std.proofs.Common.{◌≡◌, ◌≢◌, ℕ, ◌+◌, ◌-◌, ◌*◌, ◌/◌, ◌%◌, ◌^◌, ◌<◌, ◌≤◌, true, List, [], ◌∷◌, ◌++◌, map, length, get_or, set, refl, sym, ◌∙◌, subst, ap, inl, inr, arith, div-mul-le_self, add-zero, length-append, get_or-set_same, get_or-set_other}
use Rattle.std.specs.Prelude.{Option, Some, None}
use Rattle.std.specs.List.{list_any}
use Rattle.std.proofs.lemmas.Bool.{cases_eq, cases_lt, and_parts, or_cases, eqb-true, leb-true, ltb-true, false≢true}
use Rattle.std.proofs.lemmas.List.{length-set, length-map, get_or_append_left, get_or_push}
use Rattle.std.proofs.lemmas.Nat.{pow_pos, mod-mul-add, div-mul-add, div-add-mod'}
use Rattle.net_base.specs.Blocks.{Block, IsBlock, block_size, in_block}
use Rattle.net_base.specs.Members.{IsIn}
use Rattle.net_base.proofs.MemberLaws.{in_append_cases, map-push}
use Rattle.net_base.specs.declared.ids.Port.{Port}
use Rattle.net_base.specs.declared.ids.Vlan.{Vlan}
use Rattle.net_base.specs.declared.ids.Vlan.TheVariants as vlan
use Rattle.flow_rules.specs.Patterns.{Header, covers, admits_port, admits_vlan}
use Rattle.flow_rules.specs.Tuples.{kind_eq, ports_alike, tests_alike, port_around, test_around, prefix_around, pattern_around, slot_of, IsLink, IsSpace}
use Rattle.flow_rules.specs.declared.rules.VlanTest.{VlanTest}
use Rattle.flow_rules.specs.declared.rules.VlanTest.TheVariants as test
use Rattle.flow_rules.specs.declared.rules.Pattern.{Pattern}

-- the block around an address is one
pub block_around : (address len : ℕ) → len ≤ 32 → address < 2 ^ 32 → IsBlock (prefix_around len address)
block_around address len few below =
    let size : 0 < 2 ^ (32 - len) = pow_pos (32 - len) in
    let le : address / 2 ^ (32 - len) * 2 ^ (32 - len) ≤ address = div-mul-le_self address (2 ^ (32 - len)) in
    let base : ℕ = address / 2 ^ (32 - len) * 2 ^ (32 - len) in
    record {
      length = few;
      base = omega (arith, le, below);
      aligned = ap (λ (n : ℕ). n % 2 ^ (32 - len)) (sym (add-zero base)) ∙ mod-mul-add (address / 2 ^ (32 - len)) (2 ^ (32 - len)) 0 size;
    }

-- a number in a part of a whole
part_of : (q s n : ℕ) → q * s ≤ n → n < q * s + s → n / s ≡ q
part_of q s n low high =
    let is : n ≡ q * s + (n - q * s) = omega arith in
    ap (λ x. x / s) is ∙ div-mul-add q s (n - q * s) (omega arith)

-- a block is the one around each of its addresses
block_of : (b : Block) (address : ℕ) → IsBlock b → in_block b address ≡ true → prefix_around b.len address ≡ b
block_of b address is e =
    let parts : b.base / block_size b * block_size b + b.base % block_size b ≡ b.base = div-add-mod' b.base (block_size b) in
    let none : b.base % block_size b ≡ 0 = is.aligned in
    let whole : b.base / block_size b * block_size b ≡ b.base = omega (arith, parts, none) in
    let (l, h) = and_parts _ _ e in
    let low : b.base ≤ address = leb-true b.base address l in
    let high : address < b.base + block_size b = ltb-true address (b.base + block_size b) h in
    let base : address / block_size b * block_size b ≡ b.base =
    ap (λ x. x * block_size b) (part_of (b.base / block_size b) (block_size b) address (omega (arith, whole, low)) (omega (arith, whole, high))) ∙ whole in
    ap (λ (n : ℕ). let x : Block = record { base = n; len = b.len } in x) base

port_of : (choice : Option Port) (port : Port) → admits_port choice port ≡ true → port_around choice port ≡ choice
port_of None port e = refl
port_of (Some p) port e = let f : p.0 ≡ port.0 = eqb-true p.0 port.0 e in ap (λ (n : ℕ). let x : Port = record { 0 = n } in Some x) (sym f)

test_of : (t : VlanTest) (v : Vlan) → admits_vlan t v ≡ true → test_around t v ≡ t
test_of test.Any v e = refl
test_of test.Untagged vlan.Untagged e = refl
test_of test.Untagged (vlan.Id n) e = absurd (false≢true e)
test_of (test.Id m) vlan.Untagged e = absurd (false≢true e)
test_of (test.Id m) (vlan.Id n) e = ap test.Id (sym (eqb-true m n e))

abbrev pattern_of : Option Port → VlanTest → Block → Pattern
pattern_of in_port t dst = record { in_port = in_port; vlan = t; dst = dst }

-- a pattern that covers a packet is the one of its kind that does
pub around_self : (p : Pattern) (h : Header) → IsBlock p.dst → covers p h ≡ true → pattern_around p h ≡ p
around_self p h is e =
    let (front, dst) = and_parts _ _ e in
    let (port, vlan) = and_parts _ _ front in
    ap (λ x. pattern_of x (test_around p.vlan h.vlan) (prefix_around p.dst.len h.dst)) (port_of p.in_port h.port port)
    ∙ ap (λ x. pattern_of p.in_port x (prefix_around p.dst.len h.dst)) (test_of p.vlan h.vlan vlan)
    ∙ ap (λ x. pattern_of p.in_port p.vlan x) (block_of p.dst h.dst is dst)

port_alike : (a b : Option Port) (port : Port) → ports_alike a b ≡ true → port_around a port ≡ port_around b port
port_alike None None port e = refl
port_alike None (Some q) port e = absurd (false≢true e)
port_alike (Some p) None port e = absurd (false≢true e)
port_alike (Some p) (Some q) port e = refl

test_alike : (s t : VlanTest) (v : Vlan) → tests_alike s t ≡ true → test_around s v ≡ test_around t v
test_alike test.Any test.Any v e = refl
test_alike test.Any test.Untagged v e = absurd (false≢true e)
test_alike test.Any (test.Id n) v e = absurd (false≢true e)
test_alike test.Untagged test.Any v e = absurd (false≢true e)
test_alike (test.Id m) test.Any v e = absurd (false≢true e)
test_alike test.Untagged test.Untagged v e = refl
test_alike test.Untagged (test.Id n) vlan.Untagged e = refl
test_alike test.Untagged (test.Id n) (vlan.Id i) e = refl
test_alike (test.Id m) test.Untagged vlan.Untagged e = refl
test_alike (test.Id m) test.Untagged (vlan.Id i) e = refl
test_alike (test.Id m) (test.Id n) vlan.Untagged e = refl
test_alike (test.Id m) (test.Id n) (vlan.Id i) e = refl

-- patterns of one kind have the same one that covers a packet
around_alike : (a b : Pattern) (h : Header) → kind_eq a b ≡ true → pattern_around a h ≡ pattern_around b h
around_alike a b h e =
    let (front, len) = and_parts _ _ e in
    let (port, vlan) = and_parts _ _ front in
    ap (λ x. pattern_of x (test_around a.vlan h.vlan) (prefix_around a.dst.len h.dst)) (port_alike a.in_port b.in_port h.port port)
    ∙ ap (λ x. pattern_of (port_around b.in_port h.port) x (prefix_around a.dst.len h.dst)) (test_alike a.vlan b.vlan h.vlan vlan)
    ∙ ap (λ (n : ℕ). pattern_of (port_around b.in_port h.port) (test_around b.vlan h.vlan) (prefix_around n h.dst)) (eqb-true a.dst.len b.dst.len len)

kind_among : (kinds : List Pattern) (p : Pattern) → list_any (λ k. kind_eq k p) kinds ≡ true → (k : Pattern) × IsIn k kinds × (kind_eq k p ≡ true)
kind_among [] p e = absurd (false≢true e)
kind_among (k ∷ kinds) p e =
    elim (or_cases (kind_eq k p) (list_any (λ x. kind_eq x p) kinds) e) [
      | inl f ↦ (k, inl refl, f)
      | inr f ↦ (let (x, i, g) = kind_among kinds p f in (x, inr i, g))
    ]

-- each pattern of a space that covers a packet is the packet's own for one of the kinds
pub space_complete : (heads nexts : List ℕ) (patterns kinds : List Pattern) → IsSpace heads nexts patterns kinds → (p : Pattern) (h : Header) → IsIn p patterns → covers p h ≡ true
    → (k : Pattern) × IsIn k kinds × (pattern_around k h ≡ p)
space_complete heads nexts patterns kinds is p h i e =
    let (k, j, f) = kind_among kinds p (is.known p i) in
    (k, j, around_alike k p h f ∙ around_self p h (is.blocks p i) e)

link_same : (slots others : List ℕ) (slot other limit m n : ℕ) → slots ≡ others → slot ≡ other → m ≡ n → IsLink slots slot limit m → IsLink others other limit n
link_same slots others slot other limit m n e f g is =
    subst (λ xs. IsLink xs other limit n) e (subst (λ (x : ℕ). IsLink slots x limit n) f (subst (λ (x : ℕ). IsLink slots slot limit x) g is))

module _ (slots : List ℕ) (s : ℕ) where
  -- a slot more behind the limit
  link_kept : (slot limit n : ℕ) → limit ≤ length slots → IsLink slots slot limit n → IsLink (slots ++ s ∷ []) slot limit n
  link_kept slot limit n within is =
      let low = is.within in
      record {
        within = is.within;
        same = λ more. get_or_append_left slots (s ∷ []) 0 (n - 1) (omega arith) ∙ is.same more;
        last = λ j le less e. is.last j le less (sym (get_or_append_left slots (s ∷ []) 0 j (omega arith)) ∙ e);
      }

  -- a slot more that is another one
  link_other : (slot n : ℕ) → slot ≢ s → IsLink slots slot (length slots) n → IsLink (slots ++ s ∷ []) slot (length slots + 1) n
  link_other slot n differ is =
      let low = is.within in
      record {
        within = omega arith;
        same = (link_kept slot (length slots) n (omega arith) is).same;
        last = λ j le less e. elim (cases_lt j (length slots)) [
          | inl here ↦ is.last j le here (sym (get_or_append_left slots (s ∷ []) 0 j here) ∙ e)
          | inr there ↦ (let same : j ≡ length slots = omega arith in
              differ (sym e ∙ ap (λ (x : ℕ). get_or (slots ++ s ∷ []) x 0) same ∙ get_or_push slots s 0 (length slots) refl))
        ];
      }

  link_here : IsLink (slots ++ s ∷ []) s (length slots + 1) (length slots + 1)
  link_here =
      record {
        within = omega arith;
        same = λ more. let e : length slots + 1 - 1 ≡ length slots = omega arith in
            ap (λ (x : ℕ). get_or (slots ++ s ∷ []) x 0) e ∙ get_or_push slots s 0 (length slots) refl;
        last = λ j le less. absurd (omega arith);
      }

module _ (heads nexts : List ℕ) (patterns kinds : List Pattern) (is : IsSpace heads nexts patterns kinds) (width : length nexts ≡ length patterns) (p : Pattern) where
  long : length (map (slot_of (length heads)) patterns) ≡ length patterns
  long = length-map patterns (slot_of (length heads))

  more : map (slot_of (length heads)) (patterns ++ p ∷ []) ≡ (map (slot_of (length heads)) patterns) ++ (slot_of (length heads) p) ∷ []
  more = map-push (slot_of (length heads)) patterns p

  longer : length (patterns ++ p ∷ []) ≡ length (map (slot_of (length heads)) patterns) + 1
  longer = length-append patterns (p ∷ []) ∙ ap (λ (n : ℕ). n + 1) (sym long)

  first_pushed : (slot_of (length heads) p) < (length heads) → (slot : ℕ) → slot < (length heads)
      → IsLink (map (slot_of (length heads)) (patterns ++ p ∷ [])) slot (length (patterns ++ p ∷ [])) (get_or (set heads (slot_of (length heads) p) (length patterns + 1)) slot 0)
  first_pushed below slot within =
      subst (λ xs. IsLink xs slot (length (patterns ++ p ∷ [])) (get_or (set heads (slot_of (length heads) p) (length patterns + 1)) slot 0)) (sym more)
      (subst (λ (n : ℕ). IsLink ((map (slot_of (length heads)) patterns) ++ (slot_of (length heads) p) ∷ []) slot n (get_or (set heads (slot_of (length heads) p) (length patterns + 1)) slot 0)) (sym longer)
      (elim (cases_eq slot (slot_of (length heads) p)) [
        | inl e ↦ link_same ((map (slot_of (length heads)) patterns) ++ (slot_of (length heads) p) ∷ []) ((map (slot_of (length heads)) patterns) ++ (slot_of (length heads) p) ∷ []) (slot_of (length heads) p) slot (length (map (slot_of (length heads)) patterns) + 1) (length (map (slot_of (length heads)) patterns) + 1) (get_or (set heads (slot_of (length heads) p) (length patterns + 1)) slot 0) refl (sym e)
            (ap (λ (n : ℕ). n + 1) long ∙ sym (get_or-set_same heads (slot_of (length heads) p) (length patterns + 1) 0 below) ∙ ap (λ (n : ℕ). get_or (set heads (slot_of (length heads) p) (length patterns + 1)) n 0) (sym e))
            (link_here (map (slot_of (length heads)) patterns) (slot_of (length heads) p))
        | inr ne ↦ link_same ((map (slot_of (length heads)) patterns) ++ (slot_of (length heads) p) ∷ []) ((map (slot_of (length heads)) patterns) ++ (slot_of (length heads) p) ∷ []) slot slot (length (map (slot_of (length heads)) patterns) + 1) (get_or heads slot 0) (get_or (set heads (slot_of (length heads) p) (length patterns + 1)) slot 0) refl refl
            (sym (get_or-set_other heads (slot_of (length heads) p) slot (length patterns + 1) 0 ne))
            (link_other (map (slot_of (length heads)) patterns) (slot_of (length heads) p) slot (get_or heads slot 0) ne (subst (λ (n : ℕ). IsLink (map (slot_of (length heads)) patterns) slot n (get_or heads slot 0)) (sym long) (is.first slot within)))
      ]))

  after_pushed : (slot_of (length heads) p) < (length heads) → (i : ℕ) → i < length (patterns ++ p ∷ [])
      → IsLink (map (slot_of (length heads)) (patterns ++ p ∷ [])) (get_or (map (slot_of (length heads)) (patterns ++ p ∷ [])) i 0) i (get_or (nexts ++ get_or heads (slot_of (length heads) p) 0 ∷ []) i 0)
  after_pushed below i within =
      subst (λ xs. IsLink xs (get_or xs i 0) i (get_or (nexts ++ get_or heads (slot_of (length heads) p) 0 ∷ []) i 0)) (sym more)
      (elim (cases_lt i (length patterns)) [
        | inl here ↦ link_same ((map (slot_of (length heads)) patterns) ++ (slot_of (length heads) p) ∷ []) ((map (slot_of (length heads)) patterns) ++ (slot_of (length heads) p) ∷ []) (get_or (map (slot_of (length heads)) patterns) i 0) (get_or ((map (slot_of (length heads)) patterns) ++ (slot_of (length heads) p) ∷ []) i 0) i (get_or nexts i 0) (get_or (nexts ++ get_or heads (slot_of (length heads) p) 0 ∷ []) i 0) refl
            (sym (get_or_append_left (map (slot_of (length heads)) patterns) ((slot_of (length heads) p) ∷ []) 0 i (omega (arith, long, here))))
            (sym (get_or_append_left nexts (get_or heads (slot_of (length heads) p) 0 ∷ []) 0 i (omega (arith, width, here))))
            (link_kept (map (slot_of (length heads)) patterns) (slot_of (length heads) p) (get_or (map (slot_of (length heads)) patterns) i 0) i (get_or nexts i 0) (omega (arith, long, here)) (is.after i here))
        | inr there ↦ (let last : i ≡ length patterns = omega (arith, within, there, longer, long) in
            link_same ((map (slot_of (length heads)) patterns) ++ (slot_of (length heads) p) ∷ []) ((map (slot_of (length heads)) patterns) ++ (slot_of (length heads) p) ∷ []) (slot_of (length heads) p) (get_or ((map (slot_of (length heads)) patterns) ++ (slot_of (length heads) p) ∷ []) i 0) i (get_or heads (slot_of (length heads) p) 0) (get_or (nexts ++ get_or heads (slot_of (length heads) p) 0 ∷ []) i 0) refl
            (sym (get_or_push (map (slot_of (length heads)) patterns) (slot_of (length heads) p) 0 i (long ∙ sym last)))
            (sym (get_or_push nexts (get_or heads (slot_of (length heads) p) 0) 0 i (width ∙ sym last)))
            (link_kept (map (slot_of (length heads)) patterns) (slot_of (length heads) p) (slot_of (length heads) p) i (get_or heads (slot_of (length heads) p) 0) (omega (arith, long, last)) (subst (λ (n : ℕ). IsLink (map (slot_of (length heads)) patterns) (slot_of (length heads) p) n (get_or heads (slot_of (length heads) p) 0)) (sym last) (is.first (slot_of (length heads) p) below))))
      ])

  -- a pattern more
  pub space_push : (others : List Pattern) → (slot_of (length heads) p) < (length heads) → IsBlock p.dst → list_any (λ k. kind_eq k p) others ≡ true
      → ((q : Pattern) → list_any (λ k. kind_eq k q) kinds ≡ true → list_any (λ k. kind_eq k q) others ≡ true)
      → IsSpace (set heads (slot_of (length heads) p) (length patterns + 1)) (nexts ++ get_or heads (slot_of (length heads) p) 0 ∷ []) (patterns ++ p ∷ []) others
  space_push others below block here kept =
      let same : length (set heads (slot_of (length heads) p) (length patterns + 1)) ≡ (length heads) = length-set heads (slot_of (length heads) p) (length patterns + 1) in
      record {
        some_slots = subst (λ (n : ℕ). 0 < n) (sym same) is.some_slots;
        first = subst (λ (n : ℕ). (slot : ℕ) → slot < n → IsLink (map (slot_of n) (patterns ++ p ∷ [])) slot (length (patterns ++ p ∷ [])) (get_or (set heads (slot_of (length heads) p) (length patterns + 1)) slot 0)) (sym same)
            (first_pushed below);
        after = subst (λ (n : ℕ). (i : ℕ) → i < length (patterns ++ p ∷ [])
            → IsLink (map (slot_of n) (patterns ++ p ∷ [])) (get_or (map (slot_of n) (patterns ++ p ∷ [])) i 0) i (get_or (nexts ++ get_or heads (slot_of (length heads) p) 0 ∷ []) i 0)) (sym same)
            (after_pushed below);
        known = λ q i. elim (in_append_cases q patterns (p ∷ []) i) [
          | inl j ↦ kept q (is.known q j)
          | inr j ↦ elim j [ inl e ↦ subst (λ x. list_any (λ k. kind_eq k x) others ≡ true) (sym e) here | inr k ↦ absurd k ]
        ];
        blocks = λ q i. elim (in_append_cases q patterns (p ∷ []) i) [
          | inl j ↦ is.blocks q j
          | inr j ↦ elim j [ inl e ↦ subst (λ (x : Pattern). IsBlock x.dst) (sym e) block | inr k ↦ absurd k ]
        ];
      }
