-- A chunk consists of parts or is refused, one of the two, and either is what is computed.
use Rattle.std.specs.Prelude.{◌≡◌, ◌⊎◌, ℕ, ◌≤◌, List, length, Some, Result, Ok, Err}
use Rattle.std.proofs.Common.{ap, arith, refl, sym, ◌∙◌, subst, inl, inr}
use Rattle.jfr_base.specs.declared.flaw.Flaw.{Flaw}
use Rattle.jfr_frame.specs.declared.framed.Framed.{Framed}
use Rattle.jfr_frame.specs.Records.{IsRecord, AreRecords}
use Rattle.jfr_frame.proofs.RecordLaws.{rising_of}
use Rattle.jfr_pool.specs.declared.link.Link.{Link}
use Rattle.jfr_pool.specs.Chains.{chain_of}
use Rattle.jfr_pool.proofs.Among.{Among, among_of, are_records, one_there, CheckpointAt}
use Rattle.jfr_pool.proofs.ChainLaws as chains
use Rattle.jfr_pool.proofs.ChainLaws.{chain_tells, chain_read, chain_fails}
use Rattle.jfr_chunk.specs.Parts.{Parts, StartsAt, AreParts}
use Rattle.jfr_chunk.specs.Refusal.{Refused, flaw_in, read_parts, refusal_of}
use Rattle.jfr_chunk.specs.Laws.{HasOneAnswer, IsComputed}
use Rattle.jfr_chunk.proofs.AnswerLaws.{ChainTells, ChainAnswers, Tells, read_tells, refused_read, parts_read}

pub chain_answers : (c : List ℕ) (rs : List Framed) → AreRecords c rs → ChainAnswers c rs
chain_answers c rs cover = record {
  tells = λ at r s. subst (λ z. ChainTells c rs z (chain_of c rs r)) s.place
      (told r.at (chain_of c rs r) (chain_tells c rs are r (there r.at r (record { listed = s.listed; place = refl; type_is = s.type_is }))));
  chain = λ at ls r s h. chain_read c rs are one at ls h r (there at r s);
  flaw = λ at ls f r s h. chain_fails c rs are one at ls f.offset f.reason h r (there at r s);
}
  where
    are : (r : Framed) → Among rs r → IsRecord c r
    are = are_records c 68 (length c) rs cover

    one : (r s : Framed) → Among rs r → Among rs s → r.at ≡ s.at → r ≡ s
    one = one_there 0 rs (rising_of c 0 68 (length c) rs (omega arith) cover)

    there : (at : ℕ) (r : Framed) → StartsAt rs at 1 r → CheckpointAt rs at r
    there at r s = record { among = among_of rs r s.listed; place = s.place; type_is = s.type_is }

    told : (at : ℕ) (a : Result (List Link) Flaw) → chains.Tells c rs are at a → ChainTells c rs at a
    told at (Ok ls) t = t
    told at (Err f) t = t

module _ (c : List ℕ) (long : 68 ≤ length c) where
  told : Tells c long (chain_answers c) (read_parts c)
  told = read_tells c long (chain_answers c)

  refused : (f : Flaw) → Refused c f → read_parts c ≡ Err f
  refused f r = refused_read c long (chain_answers c) f r

  parts : (p : Parts) → p.bytes ≡ c → AreParts p → read_parts c ≡ Ok p
  parts p e a = ap read_parts (sym e) ∙ parts_read p (subst (λ z. 68 ≤ length z) (sym e) long) (chain_answers p.bytes) a

  pub one_answer : HasOneAnswer c
  one_answer = record {
    some = by_answer (read_parts c) told;
    not_both = λ p f e a r. differ p f (read_parts c) (parts p e a) (refused f r);
    one_flaw = λ f g r s. same f g (read_parts c) (refused f r) (refused g s);
  }
    where
      by_answer : (a : Result Parts Flaw) → Tells c long (chain_answers c) a → ((p : Parts) × (p.bytes ≡ c) × AreParts p) ⊎ ((flaw : Flaw) × Refused c flaw)
      by_answer (Ok p) t = inl (p, t.0, t.1)
      by_answer (Err f) t = inr (f, t)

      differ : (p : Parts) (f : Flaw) (a : Result Parts Flaw) → a ≡ Ok p → a ≡ Err f → ⊥
      differ p f a x y = cc

      same : (f g : Flaw) (a : Result Parts Flaw) → a ≡ Err f → a ≡ Err g → f ≡ g
      same f g a x y = cc

  pub is_computed : IsComputed c
  unfolding refusal_of
  is_computed = record {
    parts = λ p. (λ t. parts p t.0 t.1, λ e. subst (Tells c long (chain_answers c)) e told);
    flaw = λ f. (λ r. ap flaw_in (refused f r), λ e. by_answer f (read_parts c) told e);
  }
    where
      by_answer : (f : Flaw) (a : Result Parts Flaw) → Tells c long (chain_answers c) a → flaw_in a ≡ Some f → Refused c f
      by_answer f (Ok p) t e = cc
      by_answer f (Err g) t e = let h : g ≡ f = cc in subst (Refused c) h t
