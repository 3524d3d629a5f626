-- The new keys of entries, by the numbers of the entries.
use Rattle.std.specs.Prelude.{◌≡◌, ℕ, ◌<◌, List, length, map, Some, slice_get}
use Rattle.std.specs.Option.{option_map}
use Rattle.std.proofs.Common.{ap, subst, sym, ◌∙◌}
use Rattle.std.proofs.lemmas.List.{length-map}
use Rattle.std.proofs.lemmas.Option.{slice_get-map}
use Rattle.jfr_pool.specs.declared.entry.EntryAt.{EntryAt}
use Rattle.jfr_pool.specs.Entries.{number_in_force}
use Rattle.jfr_pool.specs.Laws.{IsLast}
use Rattle.jfr_pool.proofs.ForceLaws.{force_within}
use Rattle.jfr_pool.proofs.OneLaws.{last_is}
use Rattle.jfr_renumber.specs.Renumber.{pair_of}

-- The entry in force for a class and a key has them, and so their new key.
module _ (new : ℕ × ℕ → ℕ) (es : List EntryAt) (t : ℕ × ℕ) (i : ℕ) (q : number_in_force es t ≡ Some i) where
  abbrev numbers : List ℕ
  numbers = map (λ e. new (pair_of e)) es

  pub in_force_within : i < length numbers
  in_force_within = subst (λ n. i < n) (sym (length-map es (λ (e : EntryAt). new (pair_of e)))) (force_within es t i q)

  pub in_force_number : slice_get numbers i ≡ Some (new t)
  in_force_number =
      let l : IsLast es t i = (last_is es t i).0 q in
      slice_get-map (λ (e : EntryAt). new (pair_of e)) es i ∙ (ap (option_map (λ (e : EntryAt). new (pair_of e))) l.holds ∙ ap (λ z. Some (new z)) l.has)
