use Rattle.std.proofs.Common.{[], ◌∷◌, sym, ◌∙◌, inl, inr}
use Rattle.net_base.specs.Members.{IsIn}
use Rattle.round_mix.specs.declared.kinds.Pair.{Pair}
use Rattle.round_mix.proofs.SweepLaws.{apart_from_kinds, all_pairs, each_from_pairs}
use Rattle.round_mix.proofs.kinds.tell.Goals as goal

pub returns-clause-apart : goal.returns-clause-apart
returns-clause-apart c h =
    apart_from_kinds c.tell_pairs.new.marks.items (each_from_pairs c.tell_pairs.new.marks.items (λ p i.
    c.tell_pairs.ensures.apart p h (known p i)))
  where
    known : (p : Pair) → IsIn p all_pairs → IsIn p (c.pair_of.result ∷ c.pair_of-2.result ∷ c.pair_of-3.result ∷ c.pair_of-4.result ∷ c.pair_of-5.result ∷ c.pair_of-6.result ∷ c.pair_of-7.result ∷ c.pair_of-8.result ∷ c.pair_of-9.result ∷ c.pair_of-10.result ∷ [])
    known p (inl e) = inl (e ∙ sym c.pair_of.ensures)
    known p (inr (inl e)) = inr (inl (e ∙ sym c.pair_of-2.ensures))
    known p (inr (inr (inl e))) = inr (inr (inl (e ∙ sym c.pair_of-3.ensures)))
    known p (inr (inr (inr (inl e)))) = inr (inr (inr (inl (e ∙ sym c.pair_of-4.ensures))))
    known p (inr (inr (inr (inr (inl e))))) = inr (inr (inr (inr (inl (e ∙ sym c.pair_of-5.ensures)))))
    known p (inr (inr (inr (inr (inr (inl e)))))) = inr (inr (inr (inr (inr (inl (e ∙ sym c.pair_of-6.ensures))))))
    known p (inr (inr (inr (inr (inr (inr (inl e))))))) = inr (inr (inr (inr (inr (inr (inl (e ∙ sym c.pair_of-7.ensures)))))))
    known p (inr (inr (inr (inr (inr (inr (inr (inl e)))))))) = inr (inr (inr (inr (inr (inr (inr (inl (e ∙ sym c.pair_of-8.ensures))))))))
    known p (inr (inr (inr (inr (inr (inr (inr (inr (inl e))))))))) = inr (inr (inr (inr (inr (inr (inr (inr (inl (e ∙ sym c.pair_of-9.ensures)))))))))
    known p (inr (inr (inr (inr (inr (inr (inr (inr (inr (inl e)))))))))) = inr (inr (inr (inr (inr (inr (inr (inr (inr (inl (e ∙ sym c.pair_of-10.ensures))))))))))
    known p (inr (inr (inr (inr (inr (inr (inr (inr (inr (inr i)))))))))) = absurd i
