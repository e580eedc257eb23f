-- Prefixes that stand in a list already, and that of all addresses, make no boundary.
use Rattle.std.proofs.Common.{◌≡◌, ◌⊎◌, ℕ, ◌<◌, ◌^◌, List, [], ◌∷◌, ◌++◌, inl, inr, subst, arith}
use Rattle.std.specs.Prelude.{nat_lt, filter, flat_map}
use Rattle.std.proofs.lemmas.Bool.{ltb-true}
use Rattle.net_base.specs.Blocks.{Block}
use Rattle.net_base.specs.Members.{IsIn}
use Rattle.net_base.proofs.MemberLaws.{in_filter, in_from_filter, in_append_left, in_append_cases}
use Rattle.net_base.proofs.ListLaws.{in_flat_map, in_from_flat_map}
use Rattle.dest_classes.specs.Classes.{block_ends, boundaries}
use Rattle.dest_classes.proofs.ClassLaws.{in_ascending}
use Rattle.dest_classes.proofs.RisingLaws.{in_from_ascending, rises_ascending, same_rising}
use Rattle.table_difference.specs.SameClasses.{every_address}

-- the ends below 2^32, and 0
abbrev ends_of : List Block → List ℕ
ends_of blocks = 0 ∷ filter (λ a. nat_lt a (2 ^ 32)) (flat_map block_ends blocks)

-- an end of all addresses below 2^32 is 0
end_of_all : (z : ℕ) → IsIn z (block_ends every_address) → z < 2 ^ 32 → z ≡ 0
end_of_all z (inl e) less = e
end_of_all z (inr (inl e)) less = absurd (omega arith)
end_of_all z (inr (inr i)) less = absurd i

ends_kept : (xs ys : List Block) → ((b : Block) → IsIn b xs → IsIn b ys ⊎ (b ≡ every_address)) → (z : ℕ) → IsIn z (ends_of xs) → IsIn z (ends_of ys)
ends_kept xs ys part z (inl e) = inl e
ends_kept xs ys part z (inr i) =
    let (j, passes) = in_from_filter (λ a. nat_lt a (2 ^ 32)) z (flat_map block_ends xs) i in
    let (b, k, l) = in_from_flat_map block_ends z xs j in
    elim (part b k) [
      | inl m ↦ inr (in_filter (λ a. nat_lt a (2 ^ 32)) z (flat_map block_ends ys) (in_flat_map block_ends b z ys m l) passes)
      | inr e ↦ inl (end_of_all z (subst (λ c. IsIn z (block_ends c)) e l) (ltb-true z (2 ^ 32) passes))
    ]

-- lists of the same prefixes but for that of all addresses have the same boundaries
pub same_boundaries : (xs ys : List Block) → ((b : Block) → IsIn b xs → IsIn b ys ⊎ (b ≡ every_address)) → ((b : Block) → IsIn b ys → IsIn b xs) → boundaries xs ≡ boundaries ys
same_boundaries xs ys part whole =
    same_rising (boundaries xs) (boundaries ys) (rises_ascending (ends_of xs)) (rises_ascending (ends_of ys))
    (λ z. (
      λ i. in_ascending z (ends_of ys) (ends_kept xs ys part z (in_from_ascending z (ends_of xs) i)),
      λ i. in_ascending z (ends_of xs) (ends_kept ys xs (λ b j. inl (whole b j)) z (in_from_ascending z (ends_of ys) i)),
    ))

-- appended prefixes, each one of the list or that of all addresses, make no boundary
pub none_made : (xs more : List Block) → ((b : Block) → IsIn b more → IsIn b xs ⊎ (b ≡ every_address)) → boundaries (xs ++ more) ≡ boundaries (xs ++ [])
none_made xs more known =
    same_boundaries (xs ++ more) (xs ++ [])
    (λ b i. elim (in_append_cases b xs more i) [
      | inl j ↦ inl (in_append_left b xs [] j)
      | inr j ↦ elim (known b j) [ inl k ↦ inl (in_append_left b xs [] k) | inr e ↦ inr e ]
    ])
    (λ b i. elim (in_append_cases b xs [] i) [ inl j ↦ in_append_left b xs more j | inr j ↦ absurd j ])
