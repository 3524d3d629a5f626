-- Runs of kept events.
use Rattle.std.specs.Prelude.{◌≡◌, ℕ, zero, suc, ◌+◌, ◌-◌, ◌<◌, ◌≤◌, Bool, true, false, ◌||◌, ◌&&◌, ◌==◌, List, [], ◌∷◌, ◌++◌, length, map, drop, reverse, slice_get, slice_range, Option, Some, None, option_map, option_and_then, unwrap_or, if◌then◌else◌}
use Rattle.std.specs.List.{AllByRecursion, cons_option, filter_map, flat_map, list_all}
use Rattle.std.specs.Option.{option_map_or}
use Rattle.std.proofs.Common.{ap, arith, refl, sym, ◌∙◌, subst, add-one, length-append}
use Rattle.std.proofs.lemmas.Bool.Decides.{nat_tests}
use Rattle.std.proofs.lemmas.List.{append-nil}
use Rattle.std.proofs.lemmas.Option.{slice_get_within}
use Rattle.jfr_layout.specs.Classes.{is_event_class}
use Rattle.jfr_base.proofs.Ranges.{range_length, range_none, range_split}
use Rattle.jfr_frame.specs.declared.framed.Framed.{Framed}
use Rattle.jfr_frame.specs.Records.{IsRecord, Tiles, record_bytes, record_end}
use Rattle.jfr_frame.proofs.RecordLaws.{some_bytes, tiles_more, tiles_order}
use Rattle.jfr_pool.specs.declared.entry.EntryAt.{EntryAt}
use Rattle.jfr_pool.specs.declared.link.Link.{Link}
use Rattle.jfr_chunk.specs.Parts.{Parts, EventAt, AreParts, events_of, metadata_at}
use Rattle.jfr_chunk.specs.Reach.{kept_by}
use Rattle.jfr_chunk.specs.Scrub.{OutputRecord, Whole, output_record_by, output_record_of, written, written_anew, written_bytes}
use Rattle.jfr_chunk.proofs.AllLaws.{all_append, all_get}
use Rattle.jfr_laws.proofs.Quiet.{IsQuiet, quiet_records}
use Rattle.jfr_output.specs.declared.remaining_records.RecordCursor.{RecordCursor}
use Rattle.jfr_output.specs.Positions.{offset_so_far}
use Rattle.jfr_output.specs.RemainingRecords.{IsCursor, is_kept_at, link_after, link_there, linked_at, output_records_from}
use Rattle.jfr_output.proofs.CursorLaws.{cursor_passed, output_records_at}
use Rattle.jfr_scrub.specs.declared.run.Run.{Run}
use Rattle.jfr_scrub.specs.Bodies.{Progress, body_with}
use Rattle.jfr_scrub.specs.Pieces.{OutputSoFar, more}
use Rattle.jfr_scrub.specs.Runs.{HasEventAt, IsRun, Passes, body_with_run, is_in_run, record_start}
use Rattle.jfr_scrub.proofs.GallopingLaws.{event_recorded, in_run}
use Rattle.jfr_scrub.proofs.BodyLaws.{Going, going_next}
use Rattle.jfr_scrub.proofs.CheckpointLaws.{more_more}
use Rattle.jfr_scrub.proofs.FitLaws.{some_written}

-- The cursor after its event.
abbrev pub next_event : RecordCursor → RecordCursor
next_event c = record { frame = c.frame + 1; event = c.event + 1; link = c.link }

-- The cursor's record is a kept event that a run passes.
pub record AtRun (p : Parts) (flags : List Bool) (c : RecordCursor) : Type 0 where
  pub frame : Framed
  pub there : slice_get p.records c.frame ≡ Some frame
  pub more : c.frame < length p.records
  pub event : c.event < length (events_of p)
  pub other : (frame.at == metadata_at p.bytes) ≡ false
  pub cursor : IsCursor p flags (next_event c)
  pub output_records : (new : Option (List ℕ)) → output_records_from new p flags c ≡ Whole frame ∷ output_records_from new p flags (next_event c)

unlinked : (ls : List Link) (n at : ℕ) → linked_at ls n at ≡ None → link_after ls n at ≡ n
unlinked ls n at e = by_link (slice_get ls n) e
  where
    there : Link → Option (ℕ × Link)
    there l = Some (n, l)

    by_test : (l : Link) (b : Bool) → (if b then there l else None) ≡ None → (if b then n + 1 else n) ≡ n
    by_test l true e = cc
    by_test l false e = refl

    by_link : (o : Option Link) → option_and_then (λ l. if l.frame.at == at then there l else None) o ≡ None → option_map_or (λ l. if l.frame.at == at then n + 1 else n) o n ≡ n
    by_link None e = refl
    by_link (Some l) e = by_test l (l.frame.at == at) e

-- An event is neither the metadata record nor a chained checkpoint.
pub event_alone : (p : Parts) (a : AreParts p) (n : ℕ) (r : Framed) → slice_get p.records n ≡ Some r → is_event_class p.classes r.type_id ≡ true
    → ((r.at == metadata_at p.bytes) ≡ false) × (link_there p r ≡ None)
event_alone p a n r e t = (by_test (r.at == metadata_at p.bytes) q.on_metadata, by_link (link_there p r) q.on_chained)
  where
    q : IsQuiet p a p.classes r
    q = all_get (IsQuiet p a p.classes) p.records n r (quiet_records p a p.classes) e

    no_event : is_event_class p.classes r.type_id ≡ false → ⊥
    no_event f = let g : true ≡ false = sym t ∙ f in cc

    by_test : (b : Bool) → (b ≡ true → is_event_class p.classes r.type_id ≡ false) → b ≡ false
    by_test true h = absurd (no_event (h refl))
    by_test false h = refl

    by_link : (o : Option (ℕ × Link)) → ((l : ℕ × Link) → o ≡ Some l → (is_event_class p.classes r.type_id ≡ false) × (is_event_class p.classes l.1.frame.type_id ≡ false)) → o ≡ None
    by_link None h = refl
    by_link (Some l) h = absurd (no_event ((h l refl).0))

pub at_run : (p : Parts) (flags : List Bool) (c : RecordCursor) → IsCursor p flags c → is_in_run p flags c ≡ true → AtRun p flags c
at_run p flags c i h =
    let x = in_run p flags c i h in
    let u = cursor_passed p flags c x.frame i x.framed in
    let w = event_alone p i.parts c.frame x.frame x.framed ((event_recorded p x.frame x.event x.given).1) in
    let l : link_after (reverse p.chain) c.link x.frame.at ≡ c.link = unlinked (reverse p.chain) c.link x.frame.at (u.2 ∙ w.1) in
    let n : (new : Option (List ℕ)) → written_anew new p x.frame ≡ None = λ new. ap (λ t. if t then new else None) w.0 in
    let s : (new : Option (List ℕ)) → output_record_of new p (kept_by p flags) x.frame ≡ Some (Whole x.frame) =
    λ new j. output_record_by (w.1 j) ((sym u.1 ∙ x.keep) j || (x.frame.at == metadata_at p.bytes)) (n new j) x.frame in
    record {
      frame = x.frame;
      there = x.framed;
      more = slice_get_within p.records c.frame x.frame x.framed;
      event = slice_get_within (events_of p) c.event x.event x.there;
      other = w.0;
      cursor = subst (IsCursor p flags) (λ j. record { frame = c.frame + 1; event = x.behind j; link = l j }) u.0;
      output_records = λ new. output_records_at new p flags c x.frame x.framed ∙ ap (λ o. cons_option o (filter_map (output_record_of new p (kept_by p flags)) (drop (c.frame + 1) p.records))) (s new);
    }

-- What is computed of a record's place.
pub tells_run : (p : Parts) (flags : List Bool) (c : RecordCursor) (frames : List Framed) (here : Option ℕ) → frames ≡ p.records → here ≡ option_map (λ r. r.at) (slice_get frames c.frame)
    → option_map_or (is_kept_at (events_of p) flags c.event) here false ≡ is_in_run p flags c
tells_run p flags c frames here f e = ap (λ o. option_map_or (is_kept_at (events_of p) flags c.event) o false) (e ∙ ap (λ rs. option_map (λ r. r.at) (slice_get rs c.frame)) f)
    ∙ by_record (slice_get p.records c.frame)
  where
    by_record : (o : Option Framed) → option_map_or (is_kept_at (events_of p) flags c.event) (option_map (λ r. r.at) o) false ≡ option_map_or (λ r. is_kept_at (events_of p) flags c.event r.at) o false
    by_record None = refl
    by_record (Some r) = refl

pub starts_there : (p : Parts) (frames : List Framed) (bytes : List ℕ) (n : ℕ) (here : Option ℕ) (at : ℕ) → frames ≡ p.records → bytes ≡ p.bytes → here ≡ option_map (λ r. r.at) (slice_get frames n)
    → at ≡ unwrap_or here (length bytes) → at ≡ record_start p n
starts_there p frames bytes n here at f b h a = a ∙ ((λ i. unwrap_or ((h ∙ ap (λ rs. option_map (λ r. r.at) (slice_get rs n)) f) i) (length (b i))) ∙ by_record (slice_get p.records n))
  where
    by_record : (o : Option Framed) → unwrap_or (option_map (λ r. r.at) o) (length p.bytes) ≡ option_map_or (λ r. r.at) o (length p.bytes)
    by_record None = refl
    by_record (Some r) = refl

-- A record among those that cover a range, and the offset of the next one.
start_next : (c : List ℕ) (p q : ℕ) (rs : List Framed) (n : ℕ) (r : Framed) → Tiles c p rs q → slice_get rs n ≡ Some r
    → IsRecord c r × (option_map_or (λ s. s.at) (slice_get rs (suc n)) q ≡ record_end r)
start_next c p q [] n r t e = cc
start_next c p q (x ∷ rs) zero r t e = let h : x ≡ r = cc in subst (λ z. IsRecord c z × (option_map_or (λ s. s.at) (slice_get rs 0) q ≡ record_end z)) h (t.1, first (record_end x) rs t.2)
  where
    first : (m : ℕ) (ss : List Framed) → Tiles c m ss q → option_map_or (λ s. s.at) (slice_get ss 0) q ≡ m
    first m [] t = sym t
    first m (s ∷ ss) t = t.0
start_next c p q (x ∷ rs) (suc n) r t e = start_next c (record_end x) q rs n r t.2 e

start_within : (p : Parts) → AreParts p → (n : ℕ) → record_start p n ≤ length p.bytes
start_within p a n = by_record (slice_get p.records n) refl
  where
    by_record : (o : Option Framed) → slice_get p.records n ≡ o → option_map_or (λ r. r.at) o (length p.bytes) ≤ length p.bytes
    by_record None e = omega arith
    by_record (Some r) e = let s = start_next p.bytes 68 (length p.bytes) p.records n r a.records e in let i : record_end r ≤ length p.bytes = s.0.within in omega arith

pub run_none : (p : Parts) (flags : List Bool) (c : RecordCursor) (from : ℕ) → IsCursor p flags c → from ≡ record_start p c.frame → IsRun p flags c c from (record_start p c.frame)
run_none p flags c from i e = record { records = []; tiles = e; within = start_within p i.parts c.frame; others = tt; output_records = λ new. refl }

more_output_records : (rs : List Framed) (r : Framed) (ss : List OutputRecord) → map (λ s. Whole s) rs ++ (Whole r ∷ ss) ≡ map (λ s. Whole s) (rs ++ r ∷ []) ++ ss
more_output_records [] r ss = refl
more_output_records (x ∷ rs) r ss = ap (λ z. Whole x ∷ z) (more_output_records rs r ss)

pub run_next : (p : Parts) (flags : List Bool) (c d : RecordCursor) (from : ℕ) → IsRun p flags c d from (record_start p d.frame) → AtRun p flags d
    → IsRun p flags c (next_event d) from (record_start p (d.frame + 1))
run_next p flags c d from u a =
    let s = start_next p.bytes 68 (length p.bytes) p.records d.frame a.frame a.cursor.parts.records a.there in
    let e : record_start p (d.frame + 1) ≡ record_end a.frame = ap (record_start p) (add-one d.frame) ∙ s.1 in
    let f : record_start p d.frame ≡ a.frame.at = ap (λ o. option_map_or (λ r. r.at) o (length p.bytes)) a.there in
    record {
      records = u.records ++ a.frame ∷ [];
      tiles = subst (Tiles p.bytes from (u.records ++ a.frame ∷ [])) (sym e) (tiles_more p.bytes from (record_start p d.frame) u.records a.frame u.tiles (sym f) s.0);
      within = start_within p a.cursor.parts (d.frame + 1);
      others = all_append (λ r. (r.at == metadata_at p.bytes) ≡ false) u.records (a.frame ∷ []) u.others (a.other, tt);
      output_records = λ new. u.output_records new
          ∙ (ap (λ ss. map (λ r. Whole r) u.records ++ ss) (a.output_records new) ∙ more_output_records u.records a.frame (output_records_from new p flags (next_event d)));
    }

-- If all events are kept, consecutive ones are a run.
all_flags : (flags : List Bool) (n : ℕ) → list_all (λ keep. keep) flags ≡ true → n < length flags → unwrap_or (slice_get flags n) false ≡ true
all_flags [] n a l = absurd (omega (arith, l))
all_flags (false ∷ flags) n a l = cc
all_flags (true ∷ flags) zero a l = refl
all_flags (true ∷ flags) (suc n) a l = all_flags flags n a (omega (arith, l))

-- Which events are kept: all.
pub record AllKept (p : Parts) (flags : List Bool) : Type 0 where
  pub set : list_all (λ keep. keep) flags ≡ true
  pub each : length flags ≡ length (events_of p)

kept_there : (p : Parts) (flags : List Bool) (d : RecordCursor) (x : EventAt) → AllKept p flags → slice_get (events_of p) d.event ≡ Some x → slice_get p.records d.frame ≡ Some x.record_of
    → is_in_run p flags d ≡ true
kept_there p flags d x a t f =
    let l : d.event < length flags = omega (arith, a.each, slice_get_within (events_of p) d.event x t) in
    let k : (x.record_of.at == x.record_of.at) ≡ true = grind (arith, nat_tests) in
    ap (λ o. option_map_or (λ r. is_kept_at (events_of p) flags d.event r.at) o false) f
    ∙ (ap (λ o. option_map_or (λ e. (e.record_of.at == x.record_of.at) && unwrap_or (slice_get flags d.event) false) o false) t
    ∙ (λ j. k j && all_flags flags d.event a.set l j))

-- The cursor after n events.
abbrev pub behind : RecordCursor → ℕ → RecordCursor
behind c n = record { frame = c.frame + n; event = c.event + n; link = c.link }

pub passes_none : (p : Parts) (flags : List Bool) (c : RecordCursor) → IsCursor p flags c → Passes p flags c c
passes_none p flags c i = record { cursor = i; run = run_none p flags c (record_start p c.frame) i refl }

pub passes_next : (p : Parts) (flags : List Bool) (c d : RecordCursor) → Passes p flags c d → is_in_run p flags d ≡ true → Passes p flags c (next_event d)
passes_next p flags c d u h = let a = at_run p flags d u.cursor h in record { cursor = a.cursor; run = run_next p flags c d (record_start p c.frame) u.run a }

pub passes_events : (p : Parts) (flags : List Bool) (c : RecordCursor) → IsCursor p flags c → AllKept p flags → (n : ℕ) → ((offset : ℕ) → offset < n → HasEventAt p c offset)
    → Passes p flags c (behind c n)
passes_events p flags c i a zero h = subst (Passes p flags c) (λ j. let e : (m : ℕ) → m ≡ m + 0 = λ m. omega arith in record { frame = e c.frame j; event = e c.event j; link = c.link })
    (passes_none p flags c i)
passes_events p flags c i a (suc n) h =
    let u = passes_events p flags c i a n (λ k l. h k (omega (arith, l))) in
    let x = h n (omega arith) in
    let e : (m : ℕ) → (m + n) + 1 ≡ m + suc n = λ m. omega arith in
    subst (Passes p flags c) (λ j. record { frame = e c.frame j; event = e c.event j; link = c.link })
    (passes_next p flags c (behind c n) u (kept_there p flags (behind c n) x.event a x.there x.framed))

-- The run ends if the next record isn't the next event.
pub ends_events : (p : Parts) (flags : List Bool) (c : RecordCursor) (n : ℕ) → IsCursor p flags (behind c n) → (HasEventAt p c n → ⊥) → is_in_run p flags (behind c n) ≡ false
ends_events p flags c n i h = by_test (is_in_run p flags (behind c n)) refl
  where
    by_test : (b : Bool) → is_in_run p flags (behind c n) ≡ b → b ≡ false
    by_test true t = let x = in_run p flags (behind c n) i t in absurd
        (h (record { event = x.event; there = x.there; framed = x.framed ∙ ap (λ r. Some r) (sym ((event_recorded p x.frame x.event x.given).0)) }))
    by_test false t = refl

-- A run is laid out as its records are, one after another.
seen_before : (before : Option ℕ) (at : ℕ) → offset_so_far before false at ≡ before
seen_before None at = refl
seen_before (Some place) at = refl

abbrev with_range : Progress → ℕ → ℕ → Progress
with_range b from to = body_with_run b (record { from = from; to = to })

no_range : (b : Progress) (from to : ℕ) → from ≡ to → with_range b from to ≡ b
no_range b from to e =
    let f : slice_range b.output.chunk from to ≡ [] = range_none b.output.chunk from to (omega arith) in
    let g : b.output.bytes ++ slice_range b.output.chunk from to ≡ b.output.bytes = ap (λ z. b.output.bytes ++ z) f ∙ append-nil b.output.bytes in
    let h : b.at + (to - from) ≡ b.at = omega arith in
    λ i. record { output = record { chunk = b.output.chunk; bytes = g i }; at = h i; newest = b.newest; metadata = b.metadata }

first_of_range : (b : Progress) (r : Framed) (remaining : List EntryAt) (m to : ℕ) → (r.at == m) ≡ false → IsRecord b.output.chunk r → record_end r ≤ to
    → with_range (body_with remaining m b (Whole r)) (record_end r) to ≡ with_range b r.at to
first_of_range b r remaining m to f s h =
    let c = b.output.chunk in
    let i = some_bytes c r s in
    let l : length (record_bytes c r) ≡ record_end r - r.at = range_length c r.at (record_end r) s.within in
    let k : slice_range c r.at to ≡ record_bytes c r ++ slice_range c (record_end r) to = range_split c r.at (record_end r) to (omega arith) h in
    let o : more (more b.output (record_bytes c r)) (slice_range c (record_end r) to) ≡ more b.output (slice_range c r.at to) =
    more_more b.output (record_bytes c r) (slice_range c (record_end r) to) ∙ ap (more b.output) (sym k) in
    let a : (b.at + length (record_bytes c r)) + (to - record_end r) ≡ b.at + (to - r.at) = omega arith in
    let d : offset_so_far b.metadata (r.at == m) b.at ≡ b.metadata = ap (λ t. offset_so_far b.metadata t b.at) f ∙ seen_before b.metadata b.at in
    λ j. record { output = o j; at = a j; newest = b.newest; metadata = d j }

laid_run : (p : Parts) (remaining : List EntryAt) (all ss : List OutputRecord) (rs : List Framed) (from to : ℕ) (b : Progress) → Going p remaining all (map (λ r. Whole r) rs ++ ss) b
    → Tiles p.bytes from rs to →
    AllByRecursion (λ r. (r.at == metadata_at p.bytes) ≡ false) rs → Going p remaining all ss (with_range b from to)
laid_run p remaining all ss [] from to b g t o = subst (Going p remaining all ss) (sym (no_range b from to t)) g
laid_run p remaining all ss (r ∷ rs) from to b g t o =
    let m = metadata_at p.bytes in
    let next = going_next p remaining all (map (λ s. Whole s) rs ++ ss) (Whole r) b (body_with remaining m b (Whole r)) m g refl refl (some_written p.bytes remaining (Whole r) b.at b.newest t.1) in
    let rest = laid_run p remaining all ss rs (record_end r) to (body_with remaining m b (Whole r)) next t.2 o.1 in
    let e = first_of_range b r remaining m to o.0 (subst (λ c. IsRecord c r) (sym g.chunk) t.1) (tiles_order p.bytes (record_end r) to rs t.2) in
    subst (Going p remaining all ss) (e ∙ ap (λ n. with_range b n to) t.0) rest

-- What is left to lay out after a run.
pub going_run : (new : Option (List ℕ)) (p : Parts) (flags : List Bool) (remaining : List EntryAt) (all rest : List OutputRecord) (c d : RecordCursor) (run : Run) (b next : Progress)
    → IsRun p flags c d run.from run.to → Going p remaining all (output_records_from new p flags c) b → next ≡ body_with_run b run → output_records_from new p flags d ≡ rest
    → Going p remaining all rest next
going_run new p flags remaining all rest c d run b next u g n e =
    let laid = laid_run p remaining all (output_records_from new p flags d) u.records run.from run.to b (subst (λ ss. Going p remaining all ss b) (u.output_records new) g) u.tiles u.others in
    subst (λ ss. Going p remaining all ss next) e (subst (Going p remaining all (output_records_from new p flags d)) (sym n) laid)

-- What is laid out is no longer than the chunk.
pub going_within : (p : Parts) (remaining : List EntryAt) (all ss : List OutputRecord) (b : Progress) → Going p remaining all ss b → b.at ≤ length p.bytes
going_within p remaining all ss b g =
    let y = flat_map (written_bytes p.bytes remaining) (written p.bytes remaining b.at b.newest ss) in
    let k : length (b.output.bytes ++ y) ≡ length (flat_map (written_bytes p.bytes remaining) (written p.bytes remaining 68 None all)) = ap (λ (z : OutputSoFar). length z.bytes) g.output in
    let l : length (b.output.bytes ++ y) ≡ length b.output.bytes + length y = length-append b.output.bytes y in
    let w : 68 + length (flat_map (written_bytes p.bytes remaining) (written p.bytes remaining 68 None all)) ≤ length p.bytes = g.within in
    let a : b.at ≡ 68 + length b.output.bytes = g.at in
    omega arith

-- A run and the record after it leave fewer.
pub run_shorter : (rs : List Framed) (before rest after : List OutputRecord) (s : OutputRecord) → before ≡ map (λ r. Whole r) rs ++ rest → rest ≡ s ∷ after → length after < length before
run_shorter rs before rest after s e f = omega (arith, ap (λ (z : List OutputRecord). length z) e, length-append (map (λ r. Whole r) rs) rest, ap (λ (z : List OutputRecord). length z) f)
