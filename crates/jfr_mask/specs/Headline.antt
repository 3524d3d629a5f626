-- What holds of a masked chunk, and of a masked recording.
use Rattle.std.specs.Prelude.{◌≡◌, ℕ, ◌<◌, ◌^◌, true, List, [], ◌∷◌, length, ⊤}
use Rattle.std.specs.List.{AllByRecursion}
use Rattle.jfr_header.specs.Fronts.{Whole}
use Rattle.jfr_chunk.specs.Metas.{remaining_classes}
use Rattle.jfr_chunk.specs.Parts.{AreParts, EventAt, Parts, events_of}
use Rattle.jfr_chunk.specs.Reach.{Reached}
use Rattle.jfr_rewrite.specs.Paths.{MeansChanged}
use Rattle.jfr_rewrite.specs.Rewritten.{IsRewritten, OneToOne}
use Rattle.jfr_mask.specs.MaskOf.{Chosen, Masking, chunk_texts, dictionary_after, entries_left, events_kept, mask_of, masks_in, next_dictionary, rewrite_of, stops_in}
use Rattle.jfr_mask.specs.Pseudonyms.{has_text, number_of}

-- The masked chunk is accepted, with the kept events and the entries that remain, each with its masked strings changed.
abbrev pub IsAccepted : Masking → List (List ℕ) → Parts → List EventAt → Type 0
IsAccepted m d p kept = IsRewritten (rewrite_of m (dictionary_after m d p kept) p kept) p kept (entries_left m p kept) (remaining_classes m.described p kept)

-- The events of the masked chunk `q` mean the same as the kept ones, one to one: each path that goes no further at
-- masked strings leads to the same, except for the masked strings, or from both nowhere.
abbrev pub MeansTheSame : Masking → List (List ℕ) → Parts → Parts → List EventAt → Type 0
MeansTheSame m d p q kept = OneToOne (MeansChanged (masks_in m (dictionary_after m d p kept) p) (stops_in m p) p q) kept (events_of q)

-- Each entry of a chunk is reached from its events.
abbrev pub AllReached : Parts → Type 0
AllReached p = (number : ℕ) → number < length p.entries → Reached p (events_of p) number

-- The masked chunk is accepted, its events mean the same, and each of its entries is reached from them.
pub record IsMasked (m : Masking) (d : List (List ℕ)) (p : Parts) (kept : List EventAt) : Type 0 where
  pub accepted : IsAccepted m d p kept
  pub meaning : MeansTheSame m d p accepted.parts kept
  pub reached : AllReached accepted.parts

-- Each chunk of a recording is accepted, and its masked chunk is below 2^30 bytes.
abbrev pub AllFit : Masking → List (List ℕ) → List Chosen → Type 0
AllFit m d [] = ⊤
AllFit m d (c ∷ cs) = (AreParts c.parts × Whole c.parts.bytes × (length (mask_of m d c.parts (events_kept c)) < 2 ^ 30)) × AllFit m (next_dictionary m d c) cs

-- So each is masked. The dictionary goes on from chunk to chunk.
abbrev pub AllMasked : Masking → List (List ℕ) → List Chosen → Type 0
AllMasked m d [] = ⊤
AllMasked m d (c ∷ cs) = IsMasked m d c.parts (events_kept c) × AllMasked m (next_dictionary m d c) cs

-- Each text of a masked string of a chunk has the number by which it is shown there in this dictionary, too.
abbrev pub AllNumbered : Masking → List (List ℕ) → List (List ℕ) → List Chosen → Type 0
AllNumbered m last d [] = ⊤
AllNumbered m last d (c ∷ cs) =
    AllByRecursion (λ t. (has_text last t ≡ true) × (number_of (next_dictionary m d c) t ≡ number_of last t)) (chunk_texts m c.parts (events_kept c)) × AllNumbered m last (next_dictionary m d c) cs
