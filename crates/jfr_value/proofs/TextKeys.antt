-- Strings that are keys, by the integer after their kind byte, and those that aren't.
use Rattle.std.specs.Prelude.{◌≡◌, ℕ, ◌+◌, ◌==◌, List, Ok, Err, None, IfOk, true, false, if◌then◌else◌}
use Rattle.std.proofs.Common.{ap, refl, sym, ◌∙◌, subst}
use Rattle.jfr_base.specs.Formats.{Answer, Done, integer, on, run, end_or_flaw}
use Rattle.jfr_base.proofs.FormatLaws.{run-bind}
use Rattle.jfr_base.proofs.FormatEnds.{end_or_flaw-made}
use Rattle.jfr_layout.specs.declared.kind.Kind.TheVariants as kinds
use Rattle.jfr_text.specs.Strings.{Content, Null, Empty, Key, bare_content, key_format, string_format}
use Rattle.jfr_value.specs.declared.leaf.KeyAt.{KeyAt}
use Rattle.jfr_value.specs.Leaves.{key_between}
use Rattle.jfr_value.specs.Values.{key_of}
use Rattle.jfr_value.specs.Reading.{base_format}
use Rattle.jfr_value.specs.Visits.{TakesAll}

module _ (x : List ℕ) (end at : ℕ) (is_key : run (string_format true) x end at ≡ run key_format x end (at + 1)) where
  -- It ends where the integer does.
  pub key_ends : end_or_flaw (run integer x end (at + 1)) ≡ end_or_flaw (run (base_format kinds.Text) x end at)
  key_ends = sym (end_or_flaw-made (string_format true) key_of x end at ∙ (ap end_or_flaw is_key ∙ end_or_flaw-made integer (λ key. Key key) x end (at + 1)))

  -- The key that it gives is the integer.
  module _ {A : Type 0} (takes : KeyAt → A → A → Type 0) (class : ℕ) (old new : A) where
    abbrev Taken : Answer Content → Type 0
    Taken r = IfOk r (λ got. TakesAll takes (key_between class (at + 1) got.place (key_of got.value)) old new)

    taken_by : (r : Answer ℕ) → IfOk r (λ key. takes (record { class = class; key = key.value; at = at + 1; end = key.place }) old new) → Taken (on r (λ key p. run (Done (Key key)) x end p))
    unfolding run
    taken_by (Ok r) h = (new, h, refl)
    taken_by (Err flaw) h = tt

    pub key_taken : IfOk (run integer x end (at + 1)) (λ key. takes (record { class = class; key = key.value; at = at + 1; end = key.place }) old new) → Taken (run (string_format true) x end at)
    key_taken h = subst Taken (sym (is_key ∙ run-bind integer (λ key. Done (Key key)) x end (at + 1))) (taken_by (run integer x end (at + 1)) h)

-- A string that isn't a key ends where its content does, and gives no key.
module _ (x : List ℕ) (end at to : ℕ) (content : Content) (reads : run (string_format true) x end at ≡ Ok (record { value = content; place = to })) where
  pub keyless_ends : Ok to ≡ end_or_flaw (run (base_format kinds.Text) x end at)
  keyless_ends = sym (end_or_flaw-made (string_format true) key_of x end at ∙ ap end_or_flaw reads)

  module _ {A : Type 0} (takes : KeyAt → A → A → Type 0) (class : ℕ) (state : A) (no_key : key_of content ≡ None) where
    abbrev AllTaken : Answer Content → Type 0
    AllTaken r = IfOk r (λ got. TakesAll takes (key_between class (at + 1) got.place (key_of got.value)) state state)

    pub keyless_taken : AllTaken (run (string_format true) x end at)
    keyless_taken = subst AllTaken (sym reads) (subst (λ o. TakesAll takes (key_between class (at + 1) to o) state state) (sym no_key) refl)

-- A string that is only a kind byte isn't a key.
pub bare_keyless : (kind : ℕ) → key_of (bare_content kind) ≡ None
bare_keyless kind = elim (kind == 0) as (λ b. key_of (if b then Null else Empty) ≡ None) [ true ↦ refl | false ↦ refl ]
