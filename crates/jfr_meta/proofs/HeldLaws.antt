-- Which classes of a metadata record that was read stay.
use Rattle.std.specs.Prelude.{◌≡◌, ℕ, Bool, List, Some, Result, Ok, Err, IfOk}
use Rattle.std.proofs.Common.{sym, ◌∙◌, subst}
use Rattle.jfr_layout.specs.Classes.{Classes}
use Rattle.jfr_meta.specs.Trees.{Tree, element_offset}
use Rattle.jfr_meta.specs.Body.{Body}
use Rattle.jfr_meta.specs.Described.{class_elements, class_flaws, described}
use Rattle.jfr_meta.specs.Stays.{IsStay, stay_of}
use Rattle.jfr_meta.proofs.Lists.{nothing_each}
use Rattle.jfr_meta.proofs.SlimLaws.{Describes, told_well}
use Rattle.jfr_meta.proofs.StayLaws.{is_stay}

pub if_ok : {T E : Type 0} (P Q : T → Type 0) (r : Result T E) → ((x : T) → P x → Q x) → IfOk r P → IfOk r Q
if_ok P Q (Ok x) f h = f x h
if_ok P Q (Err e) f h = h

-- The computed set is the least one, and so is each that has the same ids.
pub least_of : (b : Body) (k : Classes) (used stays : ℕ → Bool) → described b ≡ Ok k → (ts : List Tree) → class_elements b.strings b.root ≡ Some ts
    → ((id : ℕ) → stays id ≡ stay_of b.strings ts k used id) → IsStay b.strings ts k used stays
unfolding described
least_of b k used stays told ts e same =
    let d : Describes b.strings (class_elements b.strings b.root) k = told_well b.strings (element_offset b.root) (class_elements b.strings b.root) k told in
    let q : d.elements ≡ ts = (let z : Some d.elements ≡ Some ts = sym d.there ∙ e in cc) in
    let whole : IsStay b.strings d.elements k used (stay_of b.strings d.elements k used) =
    is_stay b.strings d.elements k used (sym d.classes) d.sound (nothing_each (class_flaws b.strings) d.elements d.good) in
    let there : IsStay b.strings ts k used (stay_of b.strings ts k used) = subst (λ z. IsStay b.strings z k used (stay_of b.strings z k used)) q whole in
    let f : stays ≡ stay_of b.strings ts k used = λ i id. same id i in
    subst (IsStay b.strings ts k used) (sym f) there
