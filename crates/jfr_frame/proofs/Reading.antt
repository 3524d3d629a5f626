-- How far the records of a chunk are read.
use Rattle.std.specs.Prelude.{◌≡◌, ℕ, ◌≤◌, ◌<◌, List, [], ◌∷◌, ◌++◌, length, map, Ok, None}
use Rattle.std.specs.List.{cons_option}
use Rattle.std.proofs.Common.{ap, refl, sym, ◌∙◌, subst}
use Rattle.std.proofs.lemmas.List.Elements.{filter_map-append}
use Rattle.std.proofs.lemmas.List.{map-append}
use Rattle.jfr_base.specs.declared.flaw.Flaw.{Flaw}
use Rattle.jfr_base.specs.declared.flaw.ReadFault.TheVariants.{Flawed}
use Rattle.jfr_base.specs.declared.reason.Reason.TheVariants.{RecordSize}
use Rattle.jfr_frame.specs.declared.framed.Framed.{Framed}
use Rattle.jfr_frame.specs.declared.start.Start.{Start}
use Rattle.jfr_frame.specs.Records.{IsRecord, NoRecord, Tiles, record_at, record_end, records_of}
use Rattle.jfr_frame.specs.Refused.{RefusedAt}
use Rattle.jfr_frame.specs.Starts.{AreStarts, records_at, start_of}
use Rattle.jfr_frame.proofs.RecordLaws.{record_found, records_err, records_ok, tiles_more}

-- The records that start there cover the chunk up to a place, and this is what is kept of each.
pub record Read (c : List ℕ) (starts : List Start) (at : ℕ) : Type 0 where
  pub tiles : Tiles c 68 (records_at c starts) at
  pub within : at ≤ length c
  pub kept : starts ≡ map start_of (records_at c starts)

pub read_none : (c : List ℕ) → 68 ≤ length c → Read c [] 68
read_none c h = record { tiles = refl; within = h; kept = refl }

-- The start of a record adds that record.
at_more : (c : List ℕ) (starts : List Start) (r : Framed) → IsRecord c r → records_at c (starts ++ start_of r ∷ []) ≡ records_at c starts ++ r ∷ []
at_more c starts r s = filter_map-append (λ (z : Start). record_at c z.at) starts (start_of r ∷ []) ∙ ap (λ o. records_at c starts ++ cons_option o []) (record_found c r.at r refl s)

pub read_more : (c : List ℕ) (starts more : List Start) (at : ℕ) (r : Framed) (start : Start) → Read c starts at → (r.at ≡ at) × IsRecord c r → start ≡ start_of r → more ≡ starts ++ start ∷ []
    → Read c more (record_end r)
read_more c starts more at r start h s k e = subst (λ ps. Read c ps (record_end r)) (sym (e ∙ ap (λ x. starts ++ x ∷ []) k)) added
  where
    added : Read c (starts ++ start_of r ∷ []) (record_end r)
    added = record {
      tiles = subst (λ rs. Tiles c 68 rs (record_end r)) (sym (at_more c starts r s.1)) (tiles_more c 68 at (records_at c starts) r h.tiles s.0 s.1);
      within = s.1.within;
      kept = ap (λ ps. ps ++ start_of r ∷ []) h.kept ∙ sym (map-append start_of (records_at c starts) (r ∷ [])) ∙ ap (map start_of) (sym (at_more c starts r s.1));
    }

pub read_all : (c : List ℕ) (starts : List Start) (at : ℕ) → Read c starts at → at ≡ length c → AreStarts c starts
read_all c starts at h e = record { cover = subst (Tiles c 68 (records_at c starts)) e h.tiles; kept = h.kept }

pub read_computed : (c : List ℕ) (starts : List Start) (at : ℕ) → Read c starts at → at ≡ length c → records_of c ≡ Ok (records_at c starts)
read_computed c starts at h e = records_ok c (records_at c starts) (read_all c starts at h e).cover

pub read_stops : (c : List ℕ) (starts : List Start) (at : ℕ) (flaw : Flaw) → 68 ≤ length c → Read c starts at → (flaw ≡ record { offset = at; reason = RecordSize }) × (at < length c) × NoRecord c at
    → record_at c at ≡ None → RefusedAt c (Flawed flaw)
read_stops c starts at flaw l h e n =
    let is : Flaw = record { offset = at; reason = RecordSize } in
    let all : RefusedAt c (Flawed is) = (refl, record { before = (records_at c starts, h.tiles); more = e.1; none = e.2 }, records_err c (records_at c starts) at l h.tiles e.1 n) in
    subst (λ f. RefusedAt c (Flawed f)) (sym e.0) all
