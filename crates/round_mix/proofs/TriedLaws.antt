-- What is prepared while changes are tried, given up and made.
use Rattle.std.proofs.Common.{◌≡◌, ℕ, ◌≤◌, true, false, cond, not, List, [], ◌∷◌, ◌++◌, map, length, refl, sym, ◌∙◌, subst, ap, inl, inr, arith}
use Rattle.std.specs.Prelude.{◌==◌, filter, nat_lt, Bool, Some, None, IfSome, IsSomeAnd, IsPermutation}
use Rattle.std.specs.List.{AllByRecursion}
use Rattle.std.proofs.lemmas.Bool.{cond-true, both_ways, not_from_false, ltb-true, ltb-false, and_parts, and_from, eqb-true, eq-eqb}
use Rattle.std.proofs.lemmas.List.{length-map}
use Rattle.std.proofs.lemmas.List.Filters.{length-filter_both}
use Rattle.std.proofs.lemmas.List.Sorted.{IsPermutation-map, IsPermutation-sym, IsPermutation-refl, IsPermutation-trans, IsPermutation-cons, IsPermutation-middle}
use Rattle.net_base.specs.Members.{IsIn, IsDistinct, IsSubsequence}
use Rattle.net_base.proofs.ListLaws.{distinct_members}
use Rattle.net_base.proofs.MemberLaws.{in_append_cases, each_from_in, each_weaker, each_filter, each_map, each_from_map, same_filter, in_permutation}
use Rattle.flow_rules.specs.Patterns.{key_eq}
use Rattle.flow_rules.specs.Overlaps.{IsClash, keys_clash, patterns_meet}
use Rattle.flow_rules.specs.Tables.{keys_of, IsTable, IsClear}
use Rattle.flow_rules.specs.declared.rules.Key.{Key}
use Rattle.flow_rules.specs.declared.rules.Rule.{Rule}
use Rattle.flow_rules.proofs.DistinctLaws.{keys_moved}
use Rattle.flow_rules.proofs.OverlapLaws.{meet_in, meet_out}
use Rattle.flow_rules.proofs.KeyLaws.{key_ne}
use Rattle.update_model.specs.Changes.{rules_after}
use Rattle.update_model.specs.Mixtures.{is_insert, is_delete}
use Rattle.update_model.specs.declared.Change.{Change}
use Rattle.update_model.specs.declared.Change.TheVariants.{Insert, Delete, Replace}
use Rattle.update_model.proofs.MadeLaws.{distinct_some}
use Rattle.update_model.proofs.MatchLaws.{some_filter}
use Rattle.round_mix.specs.Marks.{marked_rule, all_rules, marked_rules, rules_of}
use Rattle.round_mix.specs.Named.{with_mark}
use Rattle.round_mix.specs.Prepared.{AreGood, AreClear, IsFalling, IsPrepared}
use Rattle.round_mix.specs.Tried.{settled_mark, rule_after, put_in, marked_where, marks_without, given_up, settled_where, kept_marks}
use Rattle.round_mix.specs.Nearest.{patterns_in}
use Rattle.round_mix.specs.declared.Mark.{Mark}
use Rattle.round_mix.specs.declared.Mark.TheVariants.{Sure, Possible, Replaced}
use Rattle.round_mix.specs.declared.MarkedRule.{MarkedRule}
use Rattle.round_mix.proofs.ClearLaws.{clear_from_free, rules_of-marked}
use Rattle.round_mix.proofs.MarkLaws.{marked_from, all_mixed}

-- distinct lists of the same members
module _ {A : Type 0} where
  split_at : (x : A) (ys : List A) → IsIn x ys → (front : List A) × (back : List A) × (ys ≡ front ++ x ∷ back)
  split_at x [] i = absurd i
  split_at x (y ∷ ys) (inl e) = ([], ys, ap (λ z. z ∷ ys) (sym e))
  split_at x (y ∷ ys) (inr i) = let (front, back, e) = split_at x ys i in (y ∷ front, back, ap (λ zs. y ∷ zs) e)

  in_front : (z x : A) (front back : List A) → IsIn z (x ∷ (front ++ back)) → IsIn z (front ++ x ∷ back)
  in_front z x front back i = in_permutation (front ++ x ∷ back) (x ∷ (front ++ back)) z (IsPermutation-middle front x back) i

  to_front : (z x : A) (front back : List A) → IsIn z (front ++ x ∷ back) → IsIn z (x ∷ (front ++ back))
  to_front z x front back i =
      in_permutation (x ∷ (front ++ back)) (front ++ x ∷ back) z (IsPermutation-sym (front ++ x ∷ back) (x ∷ (front ++ back)) (IsPermutation-middle front x back)) i

  distinct_front : (x : A) (front back : List A) → IsDistinct (front ++ x ∷ back) → IsDistinct (x ∷ (front ++ back))
  distinct_front x [] back d = d
  distinct_front x (y ∷ front) back d =
      let rest = distinct_front x front back d.1 in (
        λ i. elim i [ inl e ↦ d.0 (subst (λ z. IsIn z (front ++ x ∷ back)) e (in_front x x front back (inl refl))) | inr j ↦ rest.0 j ],
        (λ i. d.0 (in_front y x front back (inr i)), rest.1),
      )

  same_moved : (xs ys : List A) → IsDistinct xs → IsDistinct ys → ((z : A) → IsIn z xs → IsIn z ys) → ((z : A) → IsIn z ys → IsIn z xs) → IsPermutation xs ys
  same_moved [] [] a b to from = IsPermutation-refl []
  same_moved [] (y ∷ ys) a b to from = absurd (from y (inl refl))
  same_moved (x ∷ xs) ys a b to from =
      let (front, back, e) = split_at x ys (to x (inl refl)) in
      let d = distinct_front x front back (subst IsDistinct e b) in
      let rest : IsPermutation xs (front ++ back) = same_moved xs (front ++ back) a.1 d.1
      (λ z i. elim (to_front z x front back (subst (IsIn z) e (to z (inr i)))) [
        | inl f ↦ absurd (a.0 (subst (λ y. IsIn y xs) f i))
        | inr j ↦ j
      ])
      (λ z i. elim (from z (subst (IsIn z) (sym e) (in_front z x front back (inr i)))) [
        | inl f ↦ absurd (d.0 (subst (λ y. IsIn y (front ++ back)) f i))
        | inr j ↦ j
      ]) in
      subst (IsPermutation (x ∷ xs)) (sym e) (IsPermutation-trans (x ∷ xs) (x ∷ (front ++ back)) (front ++ x ∷ back) (IsPermutation-cons x xs (front ++ back) rest)
      (IsPermutation-sym (front ++ x ∷ back) (x ∷ (front ++ back)) (IsPermutation-middle front x back)))

pub filter_moved : (p : Rule → Bool) (xs ys : List Rule) → IsDistinct (keys_of xs) → IsPermutation xs ys → IsPermutation (filter p xs) (filter p ys)
filter_moved p xs ys distinct moved =
    let both = same_filter p xs ys (λ z. (λ i. in_permutation ys xs z (IsPermutation-sym xs ys moved) i, λ i. in_permutation xs ys z moved i)) in
    same_moved (filter p xs) (filter p ys) (one xs distinct) (one ys (keys_moved (keys_of xs) (keys_of ys) (IsPermutation-map (λ (r : Rule). r.key) xs ys moved) distinct))
    (λ z. (both z).0) (λ z. (both z).1)
  where
    one : (rs : List Rule) → IsDistinct (keys_of rs) → IsDistinct (filter p rs)
    one rs d = distinct_members (λ (r : Rule). r.key) (filter p rs) (distinct_some (λ (r : Rule). r.key) (filter p rs) rs (some_filter p rs) d)

-- what is prepared, by the rules in their order
pub marks_are : (table : List Rule) (cs : List Change) (marks : List MarkedRule) → IsPrepared table cs marks → marks ≡ map (marked_rule cs) (rules_of marks)
marks_are table cs marks prepared =
    go marks (each_from_in (λ m. m ≡ marked_rule cs m.rule) marks (λ m i.
    (marked_from table cs prepared.good.applies prepared.good.distinct m (in_permutation (marked_rules table cs) marks m prepared.rules i)).0))
  where
    go : (ms : List MarkedRule) → AllByRecursion (λ m. m ≡ marked_rule cs m.rule) ms → ms ≡ map (marked_rule cs) (rules_of ms)
    go [] h = refl
    go (m ∷ ms) h = ap (λ (n : MarkedRule). n ∷ ms) h.0 ∙ ap (λ (ns : List MarkedRule). marked_rule cs m.rule ∷ ns) (go ms h.1)

pub rules_moved : (table : List Rule) (cs : List Change) (marks : List MarkedRule) → IsPrepared table cs marks → IsPermutation (all_rules table cs) (rules_of marks)
rules_moved table cs marks prepared =
    subst (λ (rs : List Rule). IsPermutation rs (rules_of marks)) (rules_of-marked cs (all_rules table cs))
    (IsPermutation-map (λ (m : MarkedRule). m.rule) (marked_rules table cs) marks prepared.rules)

pub prepared_of : (table : List Rule) (cs : List Change) (rs : List Rule) → AreGood table cs → AreClear table cs → IsPermutation (all_rules table cs) rs
    → IsFalling (map (marked_rule cs) rs) → IsPrepared table cs (map (marked_rule cs) rs)
prepared_of table cs rs good clear moved falling =
    record { good = good; clear = clear; rules = IsPermutation-map (marked_rule cs) (all_rules table cs) rs moved; falling = falling }

-- all mixtures are clear where the table's rules and the inserted ones are
pub clear_all : (table : List Rule) (cs : List Change) → IsTable table → AreGood table cs → IsClear (all_rules table cs) → AreClear table cs
clear_all table cs is_table good clear =
    clear_from_free table cs is_table good (λ m n i j clash.
    let (e, k) = marked_from table cs good.applies good.distinct m i in
    let (f, l) = marked_from table cs good.applies good.distinct n j in
    e ∙ ap (marked_rule cs) (clear clash.header m.rule n.rule k l clash.first clash.second clash.priority) ∙ sym f)

pub clear_of : (table : List Rule) (cs : List Change) → AreClear table cs → IsClear (all_rules table cs)
clear_of table cs clear = clear (all_rules table cs) (all_mixed table cs)

pub clear_none : (table : List Rule) → IsClear table → AreClear table []
clear_none table clear mixed mixture h a b i j = clear h a b (there a i) (there b j)
  where
    none : (made : List Change) → IsSubsequence made [] → made ≡ []
    none [] some = refl
    none (c ∷ cs) some = absurd some

    there : (r : Rule) → IsIn r mixed → IsIn r table
    there r k = subst (λ cs. IsIn r (rules_after cs table)) (none mixture.made mixture.some) ((mixture.same r).0 k)

-- priorities alone decide the order
pub falling_by : (f g : Rule → MarkedRule) → ((q : Rule) → (g q).rule.key.priority ≡ (f q).rule.key.priority) → (rs : List Rule) → IsFalling (map f rs) → IsFalling (map g rs)
falling_by f g same [] h = tt
falling_by f g same (q ∷ rs) h = (
  each_map g (λ n. n.rule.key.priority ≤ (g q).rule.key.priority) rs
      (each_weaker (λ r. (f r).rule.key.priority ≤ (f q).rule.key.priority) (λ r. (g r).rule.key.priority ≤ (g q).rule.key.priority)
      (λ r le. let e = same r in let d = same q in omega arith) rs
      (each_from_map f (λ n. n.rule.key.priority ≤ (f q).rule.key.priority) rs h.0)),
  falling_by f g same rs h.1,
)

pub falling_filter : (p : MarkedRule → Bool) (ms : List MarkedRule) → IsFalling ms → IsFalling (filter p ms)
falling_filter p [] h = tt
falling_filter p (m ∷ ms) h =
    elim (p m) as (λ b. IsFalling (cond b (m ∷ filter p ms) (filter p ms))) [
      | true ↦ (each_filter (λ n. n.rule.key.priority ≤ m.rule.key.priority) p ms h.0, falling_filter p ms h.1)
      | false ↦ falling_filter p ms h.1
    ]

pub remap : {A B C : Type 0} (f : A → B) (t : B → C) (g : A → C) → ((x : A) → t (f x) ≡ g x) → (xs : List A) → map t (map f xs) ≡ map g xs
remap f t g same [] = refl
remap f t g same (x ∷ xs) = ap (λ y. y ∷ map t (map f xs)) (same x) ∙ ap (λ ys. g x ∷ ys) (remap f t g same xs)

-- the rule that a replace puts in the place of that with its key
abbrev pub replaced : Rule → Rule → Rule
replaced r q = cond (key_eq q.key r.key) r q

-- a rule of a new key stays alone
pub others_stay : (k : Key) (rs : List Rule) → ¬ IsIn k (keys_of rs) → filter (λ q. not (key_eq q.key k)) rs ≡ rs
others_stay k [] absent = refl
others_stay k (q ∷ rs) absent =
    cond-true (not (key_eq q.key k)) (q ∷ filter (λ x. not (key_eq x.key k)) rs) (filter (λ x. not (key_eq x.key k)) rs)
    (not_from_false (key_eq q.key k) (key_ne q.key k (λ e. absent (inl (sym e)))))
    ∙ ap (λ (xs : List Rule). q ∷ xs) (others_stay k rs (λ i. absent (inr i)))

-- a marked rule put among others
pub put_moved : (m : MarkedRule) (ms : List MarkedRule) → IsPermutation (m ∷ ms) (put_in m ms)
put_moved m [] = IsPermutation-refl (m ∷ [])
put_moved m (n ∷ ns) =
    elim (nat_lt n.rule.key.priority m.rule.key.priority) as (λ b. IsPermutation (m ∷ n ∷ ns) (cond b (m ∷ n ∷ ns) (n ∷ put_in m ns))) [
      | true ↦ IsPermutation-refl (m ∷ n ∷ ns)
      | false ↦ IsPermutation-trans (m ∷ n ∷ ns) (n ∷ m ∷ ns) (n ∷ put_in m ns)
          (IsPermutation-sym (n ∷ m ∷ ns) (m ∷ n ∷ ns) (IsPermutation-middle (n ∷ []) m ns)) (IsPermutation-cons n (m ∷ ns) (put_in m ns) (put_moved m ns))
    ]

each_put : (P : MarkedRule → Type 0) (m : MarkedRule) (ms : List MarkedRule) → P m → AllByRecursion P ms → AllByRecursion P (put_in m ms)
each_put P m [] this h = (this, tt)
each_put P m (n ∷ ns) this h =
    elim (nat_lt n.rule.key.priority m.rule.key.priority) as (λ b. AllByRecursion P (cond b (m ∷ n ∷ ns) (n ∷ put_in m ns))) [
      | true ↦ (this, h)
      | false ↦ (h.0, each_put P m ns this h.1)
    ]

pub put_falling : (m : MarkedRule) (ms : List MarkedRule) → IsFalling ms → IsFalling (put_in m ms)
put_falling m [] h = (tt, tt)
put_falling m (n ∷ ns) h =
    elim (nat_lt n.rule.key.priority m.rule.key.priority) as (λ b. nat_lt n.rule.key.priority m.rule.key.priority ≡ b → IsFalling (cond b (m ∷ n ∷ ns) (n ∷ put_in m ns))) [
      | true ↦ λ e.
          let less = ltb-true n.rule.key.priority m.rule.key.priority e in (
            (omega arith, each_weaker (λ x. x.rule.key.priority ≤ n.rule.key.priority) (λ x. x.rule.key.priority ≤ m.rule.key.priority) (λ x le. omega arith) ns h.0),
            h,
          )
      | false ↦ λ e.
          let more = ltb-false n.rule.key.priority m.rule.key.priority e in
          (each_put (λ x. x.rule.key.priority ≤ n.rule.key.priority) m ns (omega arith) h.0, put_falling m ns h.1)
    ] refl

-- keys clash exactly where the rules do
pub clash_from : (a b : Rule) → keys_clash a.key b.key ≡ true → IsClash a b
clash_from a b e =
    let (same, meet) = and_parts (a.key.priority == b.key.priority) (patterns_meet a.key.pattern b.key.pattern) e in
    let (h, first, second) = meet_in a.key.pattern b.key.pattern meet in
    record { priority = eqb-true a.key.priority b.key.priority same; header = h; first = first; second = second }

pub clash_to : (a b : Rule) → IsClash a b → keys_clash a.key b.key ≡ true
clash_to a b clash =
    and_from (a.key.priority == b.key.priority) (patterns_meet a.key.pattern b.key.pattern) (eq-eqb a.key.priority b.key.priority clash.priority)
    (meet_out a.key.pattern b.key.pattern clash.header clash.first clash.second)

-- with a rule that clashes with none of a clear table it is clear
pub clear_more : (table : List Rule) (r : Rule) → IsClear table → ((q : Rule) → IsIn q table → ¬ IsClash q r) → IsClear (table ++ r ∷ [])
clear_more table r clear apart h a b i j over_a over_b same =
    elim (in_append_cases a table (r ∷ []) i) [
      | inl k ↦ elim (in_append_cases b table (r ∷ []) j) [
        | inl l ↦ clear h a b k l over_a over_b same
        | inr (inl e) ↦ absurd (apart a k (subst (IsClash a) e (record { priority = same; header = h; first = over_a; second = over_b })))
        | inr (inr none) ↦ absurd none
      ]
      | inr (inl e) ↦ elim (in_append_cases b table (r ∷ []) j) [
        | inl l ↦ absurd (apart b l (subst (IsClash b) e (record { priority = sym same; header = h; first = over_b; second = over_a })))
        | inr (inl f) ↦ e ∙ sym f
        | inr (inr none) ↦ absurd none
      ]
      | inr (inr none) ↦ absurd none
    ]

-- so few entries are needed
without_few : (k : Key) (ms : List MarkedRule) → length (marks_without k ms) ≤ length ms
without_few k ms = let both = length-filter_both (λ (m : MarkedRule). not (key_eq m.rule.key k)) (λ m. not (not (key_eq m.rule.key k))) (λ m. refl) ms in omega arith

pub given_few : (c : Change) (ms : List MarkedRule) → length (given_up c ms) ≤ length ms
given_few (Insert s r) ms = without_few r.key ms
given_few (Delete s r) ms = let e = length-map ms (λ (m : MarkedRule). cond (key_eq r.key m.rule.key) (with_mark m.rule Sure) m) in omega arith
given_few (Replace s r) ms = let e = length-map ms (λ (m : MarkedRule). cond (key_eq r.key m.rule.key) (with_mark m.rule Sure) m) in omega arith

pub kept_few : (c : Change) (ms : List MarkedRule) → length (kept_marks c ms) ≤ length ms
kept_few (Insert s r) ms = let e = length-map ms (λ (m : MarkedRule). cond (key_eq r.key m.rule.key) (settled_mark m) m) in omega arith
kept_few (Delete s r) ms = without_few r.key ms
kept_few (Replace s r) ms = let e = length-map ms (λ (m : MarkedRule). cond (key_eq r.key m.rule.key) (settled_mark m) m) in omega arith

-- what is prepared stays prepared while its marked rules change
pub carried : (ready : Bool) (old new : List MarkedRule) (P Q : List MarkedRule → Type 0) → IsSomeAnd (cond ready (Some old) None) P → (P old → Q new)
    → IsSomeAnd (cond ready (Some new) None) Q
carried true old new P Q h f = f h
carried false old new P Q h f = absurd h

-- with so few entries
pub carried_few : (ready : Bool) (old new : List MarkedRule) (bound : ℕ → ℕ) → length new ≤ bound (length old)
    → IfSome (cond ready (Some old) None) (λ a. IsSomeAnd (cond ready (Some new) None) (λ b. length b ≤ bound (length a)))
carried_few true old new bound few = few
carried_few false old new bound few = tt

-- a change that isn't an insert leaves the patterns where they are once it is given up
module _ (f : MarkedRule → MarkedRule) (same : (m : MarkedRule) → (f m).rule.key.pattern ≡ m.rule.key.pattern) where
  map_patterns : (ms : List MarkedRule) → patterns_in (map f ms) ≡ patterns_in ms
  map_patterns [] = refl
  map_patterns (m ∷ ms) = ap (λ p. p ∷ patterns_in (map f ms)) (same m) ∙ ap (λ ps. m.rule.key.pattern ∷ ps) (map_patterns ms)

marked_patterns : (k : Key) (mark : Mark) (ms : List MarkedRule) → patterns_in (marked_where k mark ms) ≡ patterns_in ms
marked_patterns k mark ms = map_patterns (λ m. cond (key_eq k m.rule.key) (with_mark m.rule mark) m) (λ m. by (key_eq k m.rule.key) m) ms
  where
    by : (b : Bool) (m : MarkedRule) → (cond b (with_mark m.rule mark) m).rule.key.pattern ≡ m.rule.key.pattern
    by true m = refl
    by false m = refl

settled_pattern : (mark : Mark) (r : Rule) → (rule_after mark r).key.pattern ≡ r.key.pattern
settled_pattern (Replaced a) r = refl
settled_pattern Sure r = refl
settled_pattern Possible r = refl

settled_patterns : (k : Key) (ms : List MarkedRule) → patterns_in (settled_where k ms) ≡ patterns_in ms
settled_patterns k ms = map_patterns (λ m. cond (key_eq k m.rule.key) (settled_mark m) m) (λ m. by (key_eq k m.rule.key) m) ms
  where
    by : (b : Bool) (m : MarkedRule) → (cond b (settled_mark m) m).rule.key.pattern ≡ m.rule.key.pattern
    by true m = settled_pattern m.mark m.rule
    by false m = refl

pub given_patterns : (c : Change) (ms : List MarkedRule) → is_insert c ≡ false → patterns_in (given_up c ms) ≡ patterns_in ms
given_patterns (Insert s r) ms off = absurd (both_ways true off refl)
given_patterns (Delete s r) ms off = marked_patterns r.key Sure ms
given_patterns (Replace s r) ms off = marked_patterns r.key Sure ms

-- and one that isn't a delete once it is made
pub kept_patterns : (c : Change) (ms : List MarkedRule) → is_delete c ≡ false → patterns_in (kept_marks c ms) ≡ patterns_in ms
kept_patterns (Insert s r) ms off = settled_patterns r.key ms
kept_patterns (Delete s r) ms off = absurd (both_ways true off refl)
kept_patterns (Replace s r) ms off = settled_patterns r.key ms

-- the marked rules stay in descending priority once a change is given up and once it is made
module _ (f : MarkedRule → MarkedRule) (same : (m : MarkedRule) → (f m).rule.key.priority ≡ m.rule.key.priority) where
  falling_map : (ms : List MarkedRule) → IsFalling ms → IsFalling (map f ms)
  falling_map [] h = tt
  falling_map (m ∷ ms) h = (
    each_map f (λ n. n.rule.key.priority ≤ (f m).rule.key.priority) ms
        (each_weaker (λ n. n.rule.key.priority ≤ m.rule.key.priority) (λ n. (f n).rule.key.priority ≤ (f m).rule.key.priority)
        (λ n le. let d = same n in let e = same m in omega arith) ms h.0),
    falling_map ms h.1,
  )

marked_falling : (k : Key) (mark : Mark) (ms : List MarkedRule) → IsFalling ms → IsFalling (marked_where k mark ms)
marked_falling k mark ms h = falling_map (λ m. cond (key_eq k m.rule.key) (with_mark m.rule mark) m) (λ m. by (key_eq k m.rule.key) m) ms h
  where
    by : (b : Bool) (m : MarkedRule) → (cond b (with_mark m.rule mark) m).rule.key.priority ≡ m.rule.key.priority
    by true m = refl
    by false m = refl

settled_priority : (mark : Mark) (r : Rule) → (rule_after mark r).key.priority ≡ r.key.priority
settled_priority (Replaced a) r = refl
settled_priority Sure r = refl
settled_priority Possible r = refl

settled_falling : (k : Key) (ms : List MarkedRule) → IsFalling ms → IsFalling (settled_where k ms)
settled_falling k ms h = falling_map (λ m. cond (key_eq k m.rule.key) (settled_mark m) m) (λ m. by (key_eq k m.rule.key) m) ms h
  where
    by : (b : Bool) (m : MarkedRule) → (cond b (settled_mark m) m).rule.key.priority ≡ m.rule.key.priority
    by true m = settled_priority m.mark m.rule
    by false m = refl

pub given_falling : (c : Change) (ms : List MarkedRule) → IsFalling ms → IsFalling (given_up c ms)
given_falling (Insert s r) ms h = falling_filter (λ m. not (key_eq m.rule.key r.key)) ms h
given_falling (Delete s r) ms h = marked_falling r.key Sure ms h
given_falling (Replace s r) ms h = marked_falling r.key Sure ms h

pub kept_falling : (c : Change) (ms : List MarkedRule) → IsFalling ms → IsFalling (kept_marks c ms)
kept_falling (Insert s r) ms h = settled_falling r.key ms h
kept_falling (Delete s r) ms h = falling_filter (λ m. not (key_eq m.rule.key r.key)) ms h
kept_falling (Replace s r) ms h = settled_falling r.key ms h
