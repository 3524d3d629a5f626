use Rattle.std.proofs.Common.{◌≡◌, ◌<◌, ℕ, Some, ap, length, subst, sym, ◌∙◌}
use Rattle.std.specs.Prelude.{slice_get}
use Rattle.std.proofs.lemmas.Option.{slice_get-get_or}
use Rattle.jfr_renumber.specs.Numbers.{ChunkKeys, new_keys, number_or_zero}
use Rattle.jfr_renumber.proofs.EntryNumbers.{in_force_number, in_force_within}
use Rattle.jfr_renumber.proofs.entry_keys.EntryKeysNewKeys.new_key.Goals as goal

pub index-requires : goal.index-requires
index-requires c =
    let i = c.in-Some.number in
    subst (λ n. i < n) (sym c.self.inside.by_entry.ok.0)
    (subst (λ z. i < length z) (sym c.self.invariant) (in_force_within (number_or_zero c.self.inside.keys.now) c.self.inside.pools.now (c.args.class, c.args.key) i (sym c.in-Some.ensures)))

pub returns-in-Some : goal.returns-in-Some
returns-in-Some c =
    let i = c.in-Some.number in
    let t : ℕ × ℕ = (c.args.class, c.args.key) in
    let w = subst (λ z. i < length z) (sym c.self.invariant) (in_force_within (number_or_zero c.self.inside.keys.now) c.self.inside.pools.now t i (sym c.in-Some.ensures)) in
    let here : slice_get c.self.inside.by_entry.items i ≡ Some c.index.result.now = slice_get-get_or c.self.inside.by_entry.items i c.index.result.now w ∙ ap (λ z. Some z) (sym c.index.ensures) in
    let there : slice_get c.self.inside.by_entry.items i ≡ Some (number_or_zero c.self.inside.keys.now t) =
    ap (λ z. slice_get z i) c.self.invariant ∙ in_force_number (number_or_zero c.self.inside.keys.now) c.self.inside.pools.now t i (sym c.in-Some.ensures) in
    let same : c.index.result.now ≡ number_or_zero c.self.inside.keys.now t = (let z = sym here ∙ there in cc) in
    same ∙ ap (λ (z : ChunkKeys). new_keys z t) c.self.view_is
