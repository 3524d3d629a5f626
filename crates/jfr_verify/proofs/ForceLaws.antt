-- The entries of the output are in force if they are copies of entries in force.
use Rattle.std.specs.Prelude.{◌≡◌, Bool, List, slice_get, Some}
use Rattle.std.proofs.Common.{ap, sym, ◌∙◌, subst}
use Rattle.std.proofs.lemmas.Option.{slice_get_within}
use Rattle.jfr_pool.specs.declared.entry.EntryAt.{EntryAt}
use Rattle.jfr_pool.specs.Entries.{number_in_force, IsInForce}
use Rattle.jfr_chunk.specs.Parts.{Parts}
use Rattle.jfr_chunk.specs.Reach.{marked}
use Rattle.jfr_laws.specs.Laws.{IsCopied}
use Rattle.jfr_laws.proofs.Marks.{rank_get, Ranked, ranked}
use Rattle.jfr_laws.proofs.Entries.{copied_get, copied_force, marked_force}
use Rattle.jfr_verify.specs.Checks.{AreAmong}
use Rattle.jfr_verify.specs.Prefix.{AllInForce}
use Rattle.jfr_verify.proofs.CopyLaws.{beside_right}
use Rattle.jfr_layout.proofs.Lists.{present}

pub all_in_force : (p q : Parts) (marks : List Bool) → AreAmong p q marks → AllInForce q
all_in_force p q marks a number l =
    let f = present q.entries number l in
    let c = beside_right (IsCopied p q) (slice_get (marked marks p.entries) number) (slice_get q.entries number) f.0 (copied_get p q (marked marks p.entries) q.entries number a.copied) f.1 in
    let k : Ranked marks p.entries number = ranked marks p.entries number (slice_get_within (marked marks p.entries) number c.0 c.1) in
    let g : slice_get p.entries k.place ≡ Some c.0 = sym (rank_get marks p.entries k.place k.is_marked) ∙ (ap (slice_get (marked marks p.entries)) k.number_is ∙ c.1) in
    let i : IsInForce p.entries k.place = a.in_force k.place k.is_marked in
    let w : i.entry ≡ c.0 = (let x : slice_get p.entries k.place ≡ Some i.entry = i.holds in cc) in
    let t : number_in_force p.entries (c.0.class, c.0.key) ≡ Some k.place = subst (λ (z : EntryAt). number_in_force p.entries (z.class, z.key) ≡ Some k.place) w i.last in
    let h : number_in_force q.entries (c.0.class, c.0.key) ≡ Some number = sym (copied_force p q (marked marks p.entries) q.entries (c.0.class, c.0.key) a.copied)
    ∙ (marked_force marks p.entries (c.0.class, c.0.key) k.place t k.is_marked ∙ ap (λ z. Some z) k.number_is) in
    let u : number_in_force q.entries (f.0.class, c.0.key) ≡ Some number = subst (λ z. number_in_force q.entries (z, c.0.key) ≡ Some number) c.2.class h in
    record { entry = f.0; holds = f.1; last = subst (λ z. number_in_force q.entries (f.0.class, z) ≡ Some number) c.2.key u }
