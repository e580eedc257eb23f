-- Lines that come byte by byte.
use Rattle.std.proofs.Common.{◌≡◌, ◌≢◌, ℕ, suc, ◌+◌, ◌-◌, ◌<◌, ◌≤◌, Bool, true, false, cond, eqb, List, [], ◌∷◌, ◌++◌, length, take, get_or, refl, sym, ap, ◌∙◌, length-append, arith}
use Rattle.std.specs.List.{slice_split, onto_first}
use Rattle.std.proofs.lemmas.Bool.{ne_eqb}
use Rattle.std.proofs.lemmas.List.Splits.{length-slice_split, slice_split-cons_yes, slice_split-cons_no}
use Rattle.std.proofs.Math.Seq.{take-append_seam, get_or-append_seam}
use Rattle.net_base.specs.Lines.{lines_of}
use Rattle.serve_lines.specs.Lines.{ended_lines, open_line}

abbrev is_end : ℕ → Bool
is_end b = eqb b 10

lines_some : (bs : List ℕ) → 0 < length (lines_of bs)
lines_some bs = omega (arith, length-slice_split is_end bs)

-- ---- a line end

onto_more : (x : ℕ) (parts more : List (List ℕ)) → 0 < length parts → onto_first x (parts ++ more) ≡ onto_first x parts ++ more
onto_more x [] more lt = absurd (omega arith)
onto_more x (p ∷ ps) more lt = refl

end_case : (b : ℕ) (bs : List ℕ) (t : Bool) → eqb b 10 ≡ t → lines_of (bs ++ 10 ∷ []) ≡ lines_of bs ++ [] ∷ [] → lines_of (b ∷ (bs ++ 10 ∷ [])) ≡ lines_of (b ∷ bs) ++ [] ∷ []
end_case b bs true e behind =
    slice_split-cons_yes is_end b (bs ++ 10 ∷ []) e ∙ ap (λ (t : List (List ℕ)). [] ∷ t) behind ∙ sym (ap (λ (t : List (List ℕ)). t ++ [] ∷ []) (slice_split-cons_yes is_end b bs e))
end_case b bs false e behind =
    slice_split-cons_no is_end b (bs ++ 10 ∷ []) e ∙ ap (onto_first b) behind ∙ onto_more b (lines_of bs) ([] ∷ []) (lines_some bs)
    ∙ sym (ap (λ (t : List (List ℕ)). t ++ [] ∷ []) (slice_split-cons_no is_end b bs e))

lines_end : (bs : List ℕ) → lines_of (bs ++ 10 ∷ []) ≡ lines_of bs ++ [] ∷ []
lines_end [] = refl
lines_end (b ∷ bs) = end_case b bs (eqb b 10) refl (lines_end bs)

-- ---- any other byte

-- the last of these parts with one byte more
grow_from : ℕ → List ℕ → List (List ℕ) → List (List ℕ)
grow_from b p [] = (p ++ b ∷ []) ∷ []
grow_from b p (q ∷ ps) = p ∷ grow_from b q ps

grow : ℕ → List (List ℕ) → List (List ℕ)
grow b [] = []
grow b (p ∷ ps) = grow_from b p ps

grow_onto : (b x : ℕ) (parts : List (List ℕ)) → 0 < length parts → onto_first x (grow b parts) ≡ grow b (onto_first x parts)
unfolding grow grow_from
grow_onto b x [] lt = absurd (omega arith)
grow_onto b x (p ∷ []) lt = refl
grow_onto b x (p ∷ (q ∷ ps)) lt = refl

grow_behind : (b : ℕ) (p : List ℕ) (parts : List (List ℕ)) → 0 < length parts → p ∷ grow b parts ≡ grow b (p ∷ parts)
unfolding grow grow_from
grow_behind b p [] lt = absurd (omega arith)
grow_behind b p (q ∷ ps) lt = refl

more_case : (c b : ℕ) (bs : List ℕ) (t : Bool) → eqb b 10 ≡ t → lines_of (bs ++ c ∷ []) ≡ grow c (lines_of bs) → lines_of (b ∷ (bs ++ c ∷ [])) ≡ grow c (lines_of (b ∷ bs))
more_case c b bs true e behind =
    slice_split-cons_yes is_end b (bs ++ c ∷ []) e ∙ ap (λ (t : List (List ℕ)). [] ∷ t) behind ∙ grow_behind c [] (lines_of bs) (lines_some bs) ∙ sym (ap (grow c) (slice_split-cons_yes is_end b bs e))
more_case c b bs false e behind =
    slice_split-cons_no is_end b (bs ++ c ∷ []) e ∙ ap (onto_first b) behind ∙ grow_onto c b (lines_of bs) (lines_some bs) ∙ sym (ap (grow c) (slice_split-cons_no is_end b bs e))

lines_more : (c : ℕ) (bs : List ℕ) → eqb c 10 ≡ false → lines_of (bs ++ c ∷ []) ≡ grow c (lines_of bs)
unfolding grow grow_from
lines_more c [] other = slice_split-cons_no is_end c [] other
lines_more c (b ∷ bs) other = more_case c b bs (eqb b 10) refl (lines_more c bs other)

-- ---- the last part and those before it

-- parts that are some parts and a last one
record EndsIn (parts front : List (List ℕ)) (last : List ℕ) : Type 0 where
  are : parts ≡ front ++ last ∷ []

record HasLast (parts : List (List ℕ)) : Type 0 where
  front : List (List ℕ)
  last : List ℕ
  ends : EndsIn parts front last

last_behind : (p : List ℕ) (parts : List (List ℕ)) → HasLast parts → HasLast (p ∷ parts)
last_behind p parts h = record { front = p ∷ h.front; last = h.last; ends = record { are = ap (λ (t : List (List ℕ)). p ∷ t) h.ends.are } }

has_last : (p : List ℕ) (parts : List (List ℕ)) → HasLast (p ∷ parts)
has_last p [] = record { front = []; last = p; ends = record { are = refl } }
has_last p (q ∷ parts) = last_behind p (q ∷ parts) (has_last q parts)

lines_have_last : (parts : List (List ℕ)) → 0 < length parts → HasLast parts
lines_have_last [] lt = absurd (omega arith)
lines_have_last (p ∷ parts) lt = has_last p parts

take_front : (front : List (List ℕ)) (last : List ℕ) → take (length (front ++ last ∷ []) - 1) (front ++ last ∷ []) ≡ front
take_front front last =
    let count : length (front ++ last ∷ []) - 1 ≡ length front = omega (arith, length-append front (last ∷ [])) in
    ap (λ (n : ℕ). take n (front ++ last ∷ [])) count ∙ take-append_seam front (last ∷ [])

get_last : (front : List (List ℕ)) (last : List ℕ) → get_or (front ++ last ∷ []) (length (front ++ last ∷ []) - 1) [] ≡ last
get_last front last =
    let count : length (front ++ last ∷ []) - 1 ≡ length front = omega (arith, length-append front (last ∷ [])) in
    ap (λ (n : ℕ). get_or (front ++ last ∷ []) n []) count ∙ get_or-append_seam front last [] []

grow_last : (c : ℕ) (p : List ℕ) (front : List (List ℕ)) (last : List ℕ) → grow_from c p (front ++ last ∷ []) ≡ p ∷ (front ++ (last ++ c ∷ []) ∷ [])
unfolding grow_from
grow_last c p [] last = refl
grow_last c p (q ∷ front) last = ap (λ (t : List (List ℕ)). p ∷ t) (grow_last c q front last)

grow_ends : (c : ℕ) (front : List (List ℕ)) (last : List ℕ) → grow c (front ++ last ∷ []) ≡ front ++ (last ++ c ∷ []) ∷ []
unfolding grow grow_from
grow_ends c [] last = refl
grow_ends c (p ∷ front) last = grow_last c p front last

module _ (bs : List ℕ) where
  h : HasLast (lines_of bs)
  h = lines_have_last (lines_of bs) (lines_some bs)

  ended_is : ended_lines bs ≡ h.front
  ended_is = ap (λ (t : List (List ℕ)). take (length t - 1) t) h.ends.are ∙ take_front h.front h.last

  open_is : open_line bs ≡ h.last
  open_is = ap (λ (t : List (List ℕ)). get_or t (length t - 1) []) h.ends.are ∙ get_last h.front h.last

  pub end_ends : ended_lines (bs ++ 10 ∷ []) ≡ ended_lines bs ++ open_line bs ∷ []
  end_ends =
      ap (λ (t : List (List ℕ)). take (length t - 1) t) (lines_end bs) ∙ take_front (lines_of bs) [] ∙ h.ends.are
      ∙ sym (ap (λ (t : List (List ℕ)). t ++ open_line bs ∷ []) ended_is ∙ ap (λ (t : List ℕ). h.front ++ t ∷ []) open_is)

  pub end_begins : open_line (bs ++ 10 ∷ []) ≡ []
  end_begins = ap (λ (t : List (List ℕ)). get_or t (length t - 1) []) (lines_end bs) ∙ get_last (lines_of bs) []

  module _ (c : ℕ) (differs : c ≢ 10) where
    grown : lines_of (bs ++ c ∷ []) ≡ h.front ++ (h.last ++ c ∷ []) ∷ []
    grown = lines_more c bs (ne_eqb c 10 differs) ∙ ap (grow c) h.ends.are ∙ grow_ends c h.front h.last

    pub byte_ends : ended_lines (bs ++ c ∷ []) ≡ ended_lines bs
    byte_ends = ap (λ (t : List (List ℕ)). take (length t - 1) t) grown ∙ take_front h.front (h.last ++ c ∷ []) ∙ sym ended_is

    pub byte_opens : open_line (bs ++ c ∷ []) ≡ open_line bs ++ c ∷ []
    byte_opens = ap (λ (t : List (List ℕ)). get_or t (length t - 1) []) grown ∙ get_last h.front (h.last ++ c ∷ []) ∙ sym (ap (λ (t : List ℕ). t ++ c ∷ []) open_is)
