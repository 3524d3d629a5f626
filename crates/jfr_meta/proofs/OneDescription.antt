-- A metadata record is read or refused, with one answer.
use Rattle.std.specs.Prelude.{◌≡◌, ◌≤◌, ◌⊎◌, ℕ, List, Result, Ok, Err}
use Rattle.std.proofs.Common.{ap, arith, refl, subst, sym, ◌∙◌, inl, inr}
use Rattle.jfr_base.specs.declared.flaw.Flaw.{Flaw}
use Rattle.jfr_base.specs.Formats.{Done, Reads, Stop}
use Rattle.jfr_base.specs.Laws.{FailsSome, HasOneAnswer, ReadsSome}
use Rattle.jfr_base.proofs.ReadLaws.{reads_parted, reads_within}
use Rattle.jfr_base.proofs.OneAnswer.{has_one_answer}
use Rattle.jfr_frame.specs.declared.framed.Framed.{Framed}
use Rattle.jfr_frame.specs.Records.{IsRecord, record_end}
use Rattle.jfr_layout.specs.Classes.{Classes}
use Rattle.jfr_meta.specs.Body.{Body, body_format, meta_format}
use Rattle.jfr_meta.specs.Described.{described, IsMetadata, IsMetadataFlaw}
use Rattle.jfr_meta.specs.Laws.{HasOneDescription}

same_ok : (b c : Body) (k m : Classes) → b ≡ c → described b ≡ Ok k → described c ≡ Ok m → k ≡ m
same_ok b c k m e f g = let h : Ok k ≡ Ok m = sym f ∙ (ap described e ∙ g) in cc

same_err : (b c : Body) (f g : Flaw) → b ≡ c → described b ≡ Err f → described c ≡ Err g → f ≡ g
same_err b c f g e h i = let j : Err f ≡ Err g = sym h ∙ (ap described e ∙ i) in cc

clash : (b c : Body) (k : Classes) (f : Flaw) → b ≡ c → described b ≡ Ok k → described c ≡ Err f → ⊥
clash b c k f e h i = let j : Ok k ≡ Err f = sym h ∙ (ap described e ∙ i) in cc

flaws_same : (f g : Flaw) → f.offset ≡ g.offset → f.reason ≡ g.reason → f ≡ g
flaws_same f g o r = λ i. record { offset = o i; reason = r i }

-- A body that is read whole ends at the end.
ends_there : (x : List ℕ) (end at : ℕ) (b : Body) (to : ℕ) → at ≤ end → Reads meta_format x end at b to → to ≡ end
unfolding meta_format
ends_there x end at b to order r =
    let s = reads_parted body_format (λ b. Stop (Done b)) x end at b to r in
    let within : to ≤ end = reads_within meta_format x end at b to order r in
    let behind : end ≤ s.place = s.second.0 in
    let e : to ≡ s.place = s.second.1.1 in
    omega arith

module _ (x : List ℕ) (r : Framed) (h : IsRecord x r) where
  one : HasOneAnswer meta_format x (record_end r) r.body
  one = has_one_answer meta_format x (record_end r) r.body h.covers h.within

  not_both : (b : Body) (k : Classes) (f : Flaw) → IsMetadata x r b k → IsMetadataFlaw x r f → ⊥
  not_both b k f m (inl s) = one.not_both (b, record_end r, m.body) (f.offset, f.reason, s)
  not_both b k f m (inr s) = clash b s.0 k f (one.one_reading b s.0 (record_end r) (record_end r) m.body s.1).0 m.classes s.2

  one_flaw : (f g : Flaw) → IsMetadataFlaw x r f → IsMetadataFlaw x r g → f ≡ g
  one_flaw f g (inl s) (inl t) = let o = one.one_failure f.offset g.offset f.reason g.reason s t in flaws_same f g o.0 o.1
  one_flaw f g (inl s) (inr t) = absurd (one.not_both (t.0, record_end r, t.1) (f.offset, f.reason, s))
  one_flaw f g (inr s) (inl t) = absurd (one.not_both (s.0, record_end r, s.1) (g.offset, g.reason, t))
  one_flaw f g (inr s) (inr t) = same_err s.0 t.0 f g (one.one_reading s.0 t.0 (record_end r) (record_end r) s.1 t.1).0 s.2 t.2

  some : ReadsSome meta_format x (record_end r) r.body ⊎ FailsSome meta_format x (record_end r) r.body → ((b : Body) × (k : Classes) × IsMetadata x r b k) ⊎ ((f : Flaw) × IsMetadataFlaw x r f)
  some (inr s) = inr (record { offset = s.0; reason = s.1 }, inl s.2)
  some (inl s) = by_classes (described s.0) refl
    where
      body : Reads meta_format x (record_end r) r.body s.0 (record_end r)
      body = subst (Reads meta_format x (record_end r) r.body s.0) (ends_there x (record_end r) r.body s.0 s.1 h.covers s.2) s.2

      by_classes : (o : Result Classes Flaw) → described s.0 ≡ o → ((b : Body) × (k : Classes) × IsMetadata x r b k) ⊎ ((f : Flaw) × IsMetadataFlaw x r f)
      by_classes (Ok k) e = inl (s.0, k, record { body = body; classes = e })
      by_classes (Err f) e = inr (f, inr (s.0, body, e))

  pub has_one_description : HasOneDescription x r
  has_one_description = record {
    some = some one.some;
    not_both = not_both;
    one_reading = λ b c k m p q. let e = (one.one_reading b c (record_end r) (record_end r) p.body q.body).0 in (e, same_ok b c k m e p.classes q.classes);
    one_flaw = one_flaw;
  }
