-- The text of members with one more behind them.
use Rattle.std.proofs.Common.{◌≡◌, ℕ, ◌-◌, Bool, true, false, List, [], ◌∷◌, ◌++◌, length, take, codes, refl, sym, ap, ◌∙◌, append_assoc, length-append, arith}
use Rattle.std.proofs.lemmas.List.{take-append-le, take_all}
use Rattle.json.specs.Print.{quoted, escape_byte}
use Rattle.serde_json.specs.Data.{Data, object, Members, no_members, member}
use Rattle.serde_json.specs.Written.{compact_text, members_text, comma_if}

-- the members, and one behind them
abbrev pub at_end : Members → List ℕ → Data → Members
at_end no_members k d = member k d no_members
at_end (member l e ms) k d = member l e (at_end ms k d)

-- the text of members without the closing brace
abbrev front : Bool → Members → List ℕ
front later no_members = []
front later (member k d ms) = comma_if later ++ (quoted k ++ 58 ∷ (compact_text d ++ front true ms))

regroup : (a q t x r : List ℕ) → (a ++ (q ++ 58 ∷ (t ++ x))) ++ r ≡ a ++ (q ++ 58 ∷ (t ++ (x ++ r)))
regroup a q t x r = simp append_assoc

closed : (later : Bool) (ms : Members) → members_text later ms ≡ front later ms ++ 125 ∷ []
closed later no_members = refl
closed later (member k d ms) =
    ap (λ (s : List ℕ). comma_if later ++ (quoted k ++ 58 ∷ (compact_text d ++ s))) (closed true ms) ∙ sym (regroup (comma_if later) (quoted k) (compact_text d) (front true ms) (125 ∷ []))

continued : (ms : Members) (k : List ℕ) (d : Data) → members_text true (at_end ms k d) ≡ front true ms ++ 44 ∷ (quoted k ++ 58 ∷ (compact_text d ++ 125 ∷ []))
continued no_members k d = refl
continued (member l e ms) k d =
    ap (λ (s : List ℕ). comma_if true ++ (quoted l ++ 58 ∷ (compact_text e ++ s))) (continued ms k d)
    ∙ sym (regroup (comma_if true) (quoted l) (compact_text e) (front true ms) (44 ∷ (quoted k ++ 58 ∷ (compact_text d ++ 125 ∷ []))))

continued_first : (l : List ℕ) (e : Data) (ms : Members) (k : List ℕ) (d : Data)
    → members_text false (at_end (member l e ms) k d) ≡ front false (member l e ms) ++ 44 ∷ (quoted k ++ 58 ∷ (compact_text d ++ 125 ∷ []))
continued_first l e ms k d =
    ap (λ (s : List ℕ). quoted l ++ 58 ∷ (compact_text e ++ s)) (continued ms k d)
    ∙ sym (regroup [] (quoted l) (compact_text e) (front true ms) (44 ∷ (quoted k ++ 58 ∷ (compact_text d ++ 125 ∷ []))))

-- without the last two bytes
cut : (text xs : List ℕ) (a b : ℕ) → text ≡ xs ++ a ∷ b ∷ [] → take (length text - 2) text ≡ xs
cut text xs a b is =
    let size : length (xs ++ a ∷ b ∷ []) - 2 ≡ length xs = omega (arith, length-append xs (a ∷ b ∷ [])) in
    ap (λ (s : List ℕ). take (length s - 2) s) is ∙ ap (λ n. take n (xs ++ a ∷ b ∷ [])) size ∙ take-append-le (length xs) xs (a ∷ b ∷ []) (omega arith) ∙ take_all (length xs) xs (omega arith)

name_text : quoted (codes "waits") ≡ codes "\"waits\""
unfolding escape_byte
name_text = refl

module _ (l : List ℕ) (e : Data) (ms : Members) (text : List ℕ) (is : text ≡ compact_text (object (member l e ms)) ++ 10 ∷ []) where
  abbrev all : Members
  all = member l e ms

  ends : text ≡ (123 ∷ front false all) ++ 125 ∷ 10 ∷ []
  ends = is ∙ ap (λ (s : List ℕ). (123 ∷ s) ++ 10 ∷ []) (closed false all) ∙ append_assoc (123 ∷ front false all) (125 ∷ []) (10 ∷ [])

  -- the parts that are joined, one after the other
  pub joined : (d : Data) (n : ℕ) (cut_text named listed whole list : List ℕ) → n ≡ length text - 2 → cut_text ≡ take n text → named ≡ cut_text ++ codes ",\"waits\":" → list ≡ compact_text d → listed ≡ named ++ list → whole ≡ listed ++ 125 ∷ 10 ∷ []
      → whole ≡ compact_text (object (at_end all (codes "waits") d)) ++ 10 ∷ []
  joined d n cut_text named listed whole list is_length is_cut is_named is_list is_listed is_whole =
      let first : cut_text ≡ 123 ∷ front false all = is_cut ∙ ap (λ k. take k text) is_length ∙ cut text (123 ∷ front false all) 125 10 ends in
      let wanted : compact_text (object (at_end all (codes "waits") d)) ≡ 123 ∷ (front false all ++ 44 ∷ (codes "\"waits\"" ++ 58 ∷ (compact_text d ++ 125 ∷ []))) =
      ap (λ (s : List ℕ). 123 ∷ s) (continued_first l e ms (codes "waits") d ∙ ap (λ (q : List ℕ). front false all ++ 44 ∷ (q ++ 58 ∷ (compact_text d ++ 125 ∷ []))) name_text) in
      let built : whole ≡ (((123 ∷ front false all) ++ codes ",\"waits\":") ++ compact_text d) ++ 125 ∷ 10 ∷ [] = rw (is_whole, is_listed, is_named, first, is_list) refl in
      let flat : (((123 ∷ front false all) ++ codes ",\"waits\":") ++ compact_text d) ++ 125 ∷ 10 ∷ [] ≡ 123 ∷ (front false all ++ 44 ∷ (codes "\"waits\"" ++ 58 ∷ (compact_text d ++ 125 ∷ 10 ∷ []))) = simp append_assoc in
      let same : (123 ∷ (front false all ++ 44 ∷ (codes "\"waits\"" ++ 58 ∷ (compact_text d ++ 125 ∷ [])))) ++ 10 ∷ [] ≡ 123 ∷ (front false all ++ 44 ∷ (codes "\"waits\"" ++ 58 ∷ (compact_text d ++ 125 ∷ 10 ∷ []))) = simp append_assoc in
      built ∙ flat ∙ sym same ∙ sym (ap (λ (s : List ℕ). s ++ 10 ∷ []) wanted)
