use Rattle.std.proofs.Common.{◌≡◌, ◌∙◌, sym, ap, Bool, [], ◌∷◌, ◌++◌, false, append-nil, if◌then◌else◌}
use Rattle.std.proofs.lemmas.Str.Pattern.{ends_text}
use Rattle.jfr_outside.specs.World.{in_folder}
use Rattle.jfr_split.specs.Names.{suffix, is_recording}
use Rattle.jfr_split.proofs.Sorting.{bytes_of}
use Rattle.jfr_split.proofs.listing.push_file.Goals as goal

pub returns-then-not-ends_with : goal.returns-then-not-ends_with
returns-then-not-ends_with c =
    let old = bytes_of c.args.files.now.items in
    let other : is_recording c.args.name.now ≡ false = sym (ends_text c.ends_with.result suffix c.args.name.now c.ends_with.ensures.cases) ∙ c.if-not-ends_with.true in
    sym (append-nil old) ∙ ap (λ (b : Bool). old ++ (if b then in_folder c.args.folder.now c.args.name.now ∷ [] else [])) (sym other)
