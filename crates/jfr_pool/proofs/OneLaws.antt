-- One chain and one list of entries, and the last entry of a class and key.
use Rattle.std.specs.Prelude.{◌≡◌, ◌≢◌, ◌⊎◌, ◌↔◌, ℕ, zero, suc, ◌+◌, ◌<◌, ◌≤◌, Bool, true, false, List, [], ◌∷◌, length, slice_get, Option, Some, None, Result, Ok, Err, IsTrue, Contains}
use Rattle.std.proofs.Common.{ap, arith, refl, ◌∙◌, inl, inr, subst}
use Rattle.std.proofs.lemmas.Bool.{cases_lt}
use Rattle.jfr_base.specs.declared.flaw.Flaw.{Flaw}
use Rattle.jfr_base.specs.declared.reason.Reason.{Reason}
use Rattle.jfr_layout.specs.Classes.{Classes}
use Rattle.jfr_frame.specs.declared.framed.Framed.{Framed}
use Rattle.jfr_frame.specs.Records.{IsRecord, AreRecords, starts_at}
use Rattle.jfr_frame.proofs.RecordLaws.{rising_of}
use Rattle.jfr_pool.specs.declared.link.Link.{Link}
use Rattle.jfr_pool.specs.declared.entry.EntryAt.{EntryAt}
use Rattle.jfr_pool.specs.Chains.{IsChain, ChainFlaw, IsReadFrom, chain_of}
use Rattle.jfr_pool.specs.Entries.{AreEntries, EntriesFlaw, entries_of, or_later, last_from, number_in_force}
use Rattle.jfr_pool.specs.Laws.{HasOneChain, IsComputedChain, HaveOneList, AreComputed, IsLast}
use Rattle.jfr_pool.proofs.Among.{Among, among_of, CheckpointAt, found_checkpoint, any_found, are_records, one_there}
use Rattle.jfr_pool.proofs.ChainLaws.{Tells, chain_tells, chain_read, chain_fails}
use Rattle.jfr_pool.proofs.EntryLaws.{Told, entries_told, entries_read, entries_fail, chain_stands}
use Rattle.jfr_pool.proofs.Targets.{hits, same_target, target_same}

abbrev flaw_of : ℕ → Reason → Flaw
flaw_of o why = record { offset = o; reason = why }

differ : {A : Type 0} (r : Result A Flaw) (a : A) (f : Flaw) → r ≡ Ok a → r ≡ Err f → ⊥
differ r a f p q = cc

same_ok : {A : Type 0} (r : Result A Flaw) (a b : A) → r ≡ Ok a → r ≡ Ok b → a ≡ b
same_ok r a b p q = cc

same_flaw : {A : Type 0} (r : Result A Flaw) (o p : ℕ) (why other : Reason) → r ≡ Err (flaw_of o why) → r ≡ Err (flaw_of p other) → (o ≡ p) × (why ≡ other)
same_flaw r o p why other e g =
    let s : flaw_of o why ≡ flaw_of p other = cc in
    (ap (λ (z : Flaw). z.offset) s, ap (λ (z : Flaw). z.reason) s)

module _ (c : List ℕ) (rs : List Framed) (cover : AreRecords c rs) where
  records : (r : Framed) → Among rs r → IsRecord c r
  records = are_records c 68 (length c) rs cover

  one : (r s : Framed) → Among rs r → Among rs s → r.at ≡ s.at → r ≡ s
  one = one_there 68 rs (rising_of c 68 68 (length c) rs (omega arith) cover)

  pub one_chain : (at : ℕ) → IsTrue (starts_at rs at 1) → HasOneChain c rs at
  one_chain at starts =
      let f = any_found rs at starts in
      let r : Framed = f.0 in
      let a = found_checkpoint rs at r f.1 in
      let b : CheckpointAt rs r.at r = record { among = a.among; place = refl; type_is = a.type_is } in
      record {
        some = by_answer (chain_of c rs r) (subst (λ (z : ℕ). Tells c rs records z (chain_of c rs r)) a.place (chain_tells c rs records r b));
        not_both = λ ls ms o why h g. differ (chain_of c rs r) ls (flaw_of o why) (chain_read c rs records one at ls h r a) (chain_fails c rs records one at ms o why g r a);
        one_chain = λ ls ms h g. same_ok (chain_of c rs r) ls ms (chain_read c rs records one at ls h r a) (chain_read c rs records one at ms g r a);
        one_flaw = λ ls ms o p why other h g. same_flaw (chain_of c rs r) o p why other (chain_fails c rs records one at ls o why h r a) (chain_fails c rs records one at ms p other g r a);
      }
    where
      by_answer : (a : Result (List Link) Flaw) → Tells c rs records at a → ((ls : List Link) × IsChain c rs at ls) ⊎ ((flaw : Flaw) × (ls : List Link) × ChainFlaw c rs at ls flaw.offset flaw.reason)
      by_answer (Ok ls) h = inl (ls, h)
      by_answer (Err f) h = inr (f, h.0, h.1)

  pub computed_chain : (r : Framed) → Contains rs r → r.type_id ≡ 1 → IsComputedChain c rs r
  computed_chain r k t =
      let a : CheckpointAt rs r.at r = record { among = among_of rs r k; place = refl; type_is = t } in
      record {
        chain = λ ls. ((λ h. chain_read c rs records one r.at ls h r a), (λ e. subst (Tells c rs records r.at) e (chain_tells c rs records r a)));
        flaw = λ o why. ((λ h. chain_fails c rs records one r.at h.0 o why h.1 r a), (λ e. subst (Tells c rs records r.at) e (chain_tells c rs records r a)));
      }

module _ (c : List ℕ) (k : Classes) (ls : List Link) (read : IsReadFrom c ls) where
  stand : (l : Link) → Among ls l → IsRecord c l.frame
  stand = chain_stands c ls read

  pub one_list : HaveOneList c k ls
  one_list = record {
    some = by_answer (entries_of c k 0 ls) (entries_told c k 0 ls stand);
    not_both = λ es o why h g. differ (entries_of c k 0 ls) es (flaw_of o why) (entries_read c k 0 ls es stand h) (entries_fail c k 0 ls o why stand g);
    one_list = λ es fs h g. same_ok (entries_of c k 0 ls) es fs (entries_read c k 0 ls es stand h) (entries_read c k 0 ls fs stand g);
    one_flaw = λ o p why other h g. same_flaw (entries_of c k 0 ls) o p why other (entries_fail c k 0 ls o why stand h) (entries_fail c k 0 ls p other stand g);
  }
    where
      by_answer : (a : Result (List EntryAt) Flaw) → Told c k 0 ls a → ((es : List EntryAt) × AreEntries c k 0 ls es) ⊎ ((flaw : Flaw) × EntriesFlaw c k ls flaw.offset flaw.reason)
      by_answer (Ok es) h = inl (es, h)
      by_answer (Err f) h = inr (f, h)

  pub computed_entries : AreComputed c k ls
  computed_entries = record {
    entries = λ es. ((λ h. entries_read c k 0 ls es stand h), (λ e. subst (Told c k 0 ls) e (entries_told c k 0 ls stand)));
    flaw = λ o why. ((λ h. entries_fail c k 0 ls o why stand h), (λ e. subst (Told c k 0 ls) e (entries_told c k 0 ls stand)));
  }

-- The last one of entries that are counted from a number on.
pub record LastFrom (n : ℕ) (es : List EntryAt) (t : ℕ × ℕ) (m : ℕ) : Type 0 where
  pub place : ℕ
  pub counted : m ≡ n + place
  pub last : IsLast es t place

abbrev NoneHits : List EntryAt → ℕ × ℕ → Type 0
NoneHits es t = (i : ℕ) (e : EntryAt) → slice_get es i ≡ Some e → (e.class, e.key) ≢ t

abbrev ToldLast : ℕ → List EntryAt → ℕ × ℕ → Option ℕ → Type 0
ToldLast n es t (Some m) = LastFrom n es t m
ToldLast n es t None = NoneHits es t

told_last : (n : ℕ) (es : List EntryAt) (t : ℕ × ℕ) → ToldLast n es t (last_from n es t)
told_last n [] t = λ i e h. cc
told_last n (x ∷ es) t = by_later (last_from (n + 1) es t) (told_last (n + 1) es t)
  where
    this_last : NoneHits es t → (later : ℕ) (e : EntryAt) → 0 < later → slice_get (x ∷ es) later ≡ Some e → (e.class, e.key) ≢ t
    this_last h zero e i g = absurd (omega arith)
    this_last h (suc l) e i g = h l e g

    by_test : (b : Bool) → hits x t ≡ b → NoneHits es t → ToldLast n (x ∷ es) t (or_later n b None)
    by_test true e h = record { place = 0; counted = omega arith; last = record { entry = x; holds = refl; has = same_target x.class x.key t e; last = this_last h } }
    by_test false e h = none
      where
        clash : (b : Bool) → b ≡ true → b ≡ false → ⊥
        clash b p q = cc

        none : (i : ℕ) (y : EntryAt) → slice_get (x ∷ es) i ≡ Some y → (y.class, y.key) ≢ t
        none zero y g = λ q. (let f : x ≡ y = cc in clash (hits x t) (target_same x.class x.key t (ap (λ (z : EntryAt). (z.class, z.key)) f ∙ q)) e)
        none (suc i) y g = h i y g

    by_later : (o : Option ℕ) → ToldLast (n + 1) es t o → ToldLast n (x ∷ es) t (or_later n (hits x t) o)
    by_later None h = by_test (hits x t) refl h
    by_later (Some m) h = record {
      place = suc h.place;
      counted = omega (arith, h.counted);
      last = record { entry = h.last.entry; holds = h.last.holds; has = h.last.has; last = last_here };
    }
      where
        last_here : (later : ℕ) (e : EntryAt) → suc h.place < later → slice_get (x ∷ es) later ≡ Some e → (e.class, e.key) ≢ t
        last_here zero e i g = absurd (omega arith)
        last_here (suc l) e i g = h.last.last l e (omega arith) g

pub last_is : (es : List EntryAt) (t : ℕ × ℕ) (m : ℕ) → (number_in_force es t ≡ Some m) ↔ IsLast es t m
unfolding number_in_force
last_is es t m = ((λ e. by_some (subst (ToldLast 0 es t) e (told_last 0 es t))), (λ h. by_answer (last_from 0 es t) (told_last 0 es t) h))
  where
    by_some : LastFrom 0 es t m → IsLast es t m
    by_some h = let q : h.place ≡ m = omega (arith, h.counted) in subst (IsLast es t) q h.last

    by_order : (p : ℕ) → IsLast es t p → IsLast es t m → ((p < m) ⊎ (m ≤ p)) → p ≡ m
    by_order p g h (inl i) = absurd (g.last m h.entry i h.holds h.has)
    by_order p g h (inr i) = by_equal (cases_lt m p)
      where
        by_equal : ((m < p) ⊎ (p ≤ m)) → p ≡ m
        by_equal (inl j) = absurd (h.last p g.entry j g.holds g.has)
        by_equal (inr j) = omega arith

    by_answer : (o : Option ℕ) → ToldLast 0 es t o → IsLast es t m → o ≡ Some m
    by_answer None g h = absurd (g m h.entry h.holds h.has)
    by_answer (Some k) g h = let q : g.place ≡ m = by_order g.place g.last h (cases_lt g.place m) in let r : k ≡ m = omega (arith, g.counted) in ap (λ z. Some z) r
