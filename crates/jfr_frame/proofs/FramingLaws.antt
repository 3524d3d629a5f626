-- Records cover a chunk, or it has a flaw, and either is what is computed.
use Rattle.std.specs.Prelude.{◌≡◌, ℕ, zero, suc, ◌-◌, ◌<◌, ◌≤◌, List, [], ◌∷◌, length, Option, None, Some, Result, Ok, Err, nat_le, true, false, if◌then◌else◌, ◌⊎◌}
use Rattle.std.proofs.Common.{ap, arith, refl, sym, ◌∙◌, subst, inl, inr}
use Rattle.std.proofs.lemmas.Bool.{cases_lt}
use Rattle.jfr_base.specs.declared.flaw.Flaw.{Flaw}
use Rattle.jfr_base.specs.declared.reason.Reason.TheVariants.{RecordSize}
use Rattle.jfr_frame.specs.declared.framed.Framed.{Framed}
use Rattle.jfr_frame.specs.Laws.{HasOneFraming, IsComputed}
use Rattle.jfr_frame.specs.Records.{IsRecord, record_end, Tiles, AreRecords, FrameFlaw, NoRecord, record_at, before_records, records_by, records_within, records_of}
use Rattle.jfr_frame.proofs.RecordLaws.{record_stands, record_none, some_bytes, tiles_one, records_ok, records_err}

-- Records cover the bytes from p up to the flaw, where none starts.
pub record Stops (c : List ℕ) (p : ℕ) (flaw : Flaw) : Type 0 where
  pub before : (rs : List Framed) × Tiles c p rs flaw.offset
  pub more : flaw.offset < length c
  pub none : NoRecord c flaw.offset
  pub reason : flaw.reason ≡ RecordSize

-- What the records computed from p say.
abbrev Says : List ℕ → ℕ → Result (List Framed) Flaw → Type 0
Says c p (Ok rs) = Tiles c p rs (length c)
Says c p (Err flaw) = Stops c p flaw

says_before : (c : List ℕ) (p : ℕ) (r : Framed) (a : Result (List Framed) Flaw) → r.at ≡ p → IsRecord c r → Says c (record_end r) a → Says c p (before_records r a)
says_before c p r (Ok rs) e s t = (e, s, t)
says_before c p r (Err flaw) e s t = record { before = (r ∷ t.before.0, (e, s, t.before.1)); more = t.more; none = t.none; reason = t.reason }

within_says : (n : ℕ) (c : List ℕ) (p : ℕ) → p ≤ length c → length c - p < n → Says c p (records_within n c p)
within_says zero c p h i = absurd (omega arith)
within_says (suc n) c p h i = by_end (cases_lt p (length c)) (λ q j k. within_says n c q k (omega arith))
  where
    by_record : p < length c → (o : Option Framed) → record_at c p ≡ o → ((q : ℕ) → p < q → q ≤ length c → Says c q (records_within n c q)) → Says c p (records_by p o (records_within n c))
    by_record j None e next = record { before = ([], refl); more = j; none = record_none c p h e; reason = refl }
    by_record j (Some r) e next =
        let s = record_stands c p r h e in
        let b : r.at < record_end r = some_bytes c r s.1 in
        let a : r.at ≡ p = s.0 in
        says_before c p r (records_within n c (record_end r)) a s.1 (next (record_end r) (omega arith) s.1.within)

    by_end : ((p < length c) ⊎ (length c ≤ p)) → ((q : ℕ) → p < q → q ≤ length c → Says c q (records_within n c q))
        → Says c p (if nat_le (length c) p then Ok [] else records_by p (record_at c p) (records_within n c))
    by_end (inl j) next = let t : nat_le (length c) p ≡ false = grind arith in rw t (by_record j (record_at c p) refl next)
    by_end (inr j) next = let t : nat_le (length c) p ≡ true = grind arith in rw t (omega arith)

module _ (c : List ℕ) (header : 68 ≤ length c) where
  chunk_says : Says c 68 (records_of c)
  unfolding records_of
  chunk_says = within_says (length c) c 68 header (omega arith)

  flaw_computed : (o : ℕ) → FrameFlaw c o → records_of c ≡ Err (record { offset = o; reason = RecordSize })
  flaw_computed o f = records_err c f.before.0 o header f.before.1 f.more (none (record_at c o) refl)
    where
      none : (r : Option Framed) → record_at c o ≡ r → record_at c o ≡ None
      none None e = e
      none (Some r) e = let s = record_stands c o r (let i : o < length c = f.more in omega arith) e in absurd (f.none r s.0 s.1)

  flaw_of : (f : Flaw) → Stops c 68 f → FrameFlaw c f.offset
  flaw_of f s = record { before = s.before; more = s.more; none = s.none }

  pub framing_computed : IsComputed c
  framing_computed = record {
    records = λ rs. (records_ok c rs, λ e. subst (Says c 68) e chunk_says);
    flaw = λ o. (flaw_computed o, λ e. flaw_of (record { offset = o; reason = RecordSize }) (subst (Says c 68) e chunk_says));
  }

  some_of : (a : Result (List Framed) Flaw) → Says c 68 a → ((rs : List Framed) × AreRecords c rs) ⊎ ((o : ℕ) × FrameFlaw c o)
  some_of (Ok rs) s = inl (rs, s)
  some_of (Err f) s = inr (f.offset, flaw_of f s)

  same_flaw : (o p : ℕ) (a : Result (List Framed) Flaw) → a ≡ Err (record { offset = o; reason = RecordSize }) → a ≡ Err (record { offset = p; reason = RecordSize }) → o ≡ p
  same_flaw o p a e g =
      let h : Flaw = record { offset = o; reason = RecordSize } in
      let k : Flaw = record { offset = p; reason = RecordSize } in
      let s : h ≡ k = cc (sym e ∙ g) in
      ap (λ (z : Flaw). z.offset) s

  pub one_framing : HasOneFraming c
  one_framing = record {
    some = some_of (records_of c) chunk_says;
    not_both = λ rs o r f. differ (records_of c) (records_ok c rs r) (flaw_computed o f);
    one_list = tiles_one c 68 (length c);
    one_flaw = λ o p f g. same_flaw o p (records_of c) (flaw_computed o f) (flaw_computed p g);
  }
    where
      differ : {rs : List Framed} {f : Flaw} (a : Result (List Framed) Flaw) → a ≡ Ok rs → a ≡ Err f → ⊥
      differ a p q = cc
