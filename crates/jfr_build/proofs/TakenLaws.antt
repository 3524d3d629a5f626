-- A value is taken from words exactly if they are those of its leaves.
use Rattle.std.specs.Prelude.{◌≡◌, ℕ, List, [], None}
use Rattle.std.proofs.Common.{ap, sym, ◌∙◌, subst}
use Rattle.std.proofs.lemmas.List.{append-nil}
use Rattle.jfr_base.specs.Formats.{Exactly}
use Rattle.jfr_layout.specs.Classes.{Classes, Sound}
use Rattle.jfr_layout.specs.declared.shape.Shape.{Shape}
use Rattle.jfr_value.specs.Values.{Value, bytes_of, shape_of}
use Rattle.jfr_value.specs.Reading.{value_format}
use Rattle.jfr_value.proofs.DepthLaws.{fits_good}
use Rattle.jfr_value.specs.Leaves.{leaves_at}
use Rattle.jfr_build.specs.LeafWords.{AreWordsOf}
use Rattle.jfr_build.specs.Taking.{value_taken}
use Rattle.jfr_build.specs.Laws.{TakenIsRead, TakesExactly}
use Rattle.jfr_build.proofs.SoundLaws.{value_sound}
use Rattle.jfr_build.proofs.WholeLaws.{value_all}

pub taken_exactly : (k : Classes) (s : Shape) (words : List (List ℕ)) (v : Value) → Sound k → TakesExactly k s words v
taken_exactly k s words v sound = (
  λ e. (let t = value_sound k s words (record { value = v; rest = [] }) e in
      let q : words ≡ t.front = t.split ∙ append-nil t.front in
      record { fits = t.fits; shape = t.shape; leaves = λ at. subst (λ z. AreWordsOf z (leaves_at None at v)) (sym q) (t.words None at) }),
  λ h. ap (λ z. value_taken k z words) (sym h.shape) ∙ (ap (λ z. value_taken k (shape_of v) z) (sym (append-nil words)) ∙ value_all k sound v h.fits words [] (h.leaves 0)),
)

pub taken_read : (k : Classes) (s : Shape) (words : List (List ℕ)) (v : Value) → Sound k → TakenIsRead k s words v
taken_read k s words v sound = λ e. (let h = (taken_exactly k s words v sound).0 e in subst (λ z. Exactly (value_format k z) (bytes_of v) v) h.shape (fits_good k v sound h.fits))
