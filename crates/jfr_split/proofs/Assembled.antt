-- A folder's files, joined to an output that was new.
use Rattle.std.proofs.Common.{IfSome, ◌≡◌, ℕ, refl, sym, ◌∙◌, ap, subst, Bool, true, false, not, cond, ◌&&◌, T, List, [], ◌∷◌, map, Option, None, Some, Ok, Err, Ordering, Less, Equal, Greater, is_eq}
use Rattle.std.specs.Prelude.{is_some}
use Rattle.std.specs.Ordering.{is_lt, ordering_reverse}
use Rattle.std.specs.FinMap as fin
use Rattle.std.specs.FinMap.{is_sorted, entries_sorted, get-entries, get-retain_keys, slice_cmp-IsAntisymmetric, nat_cmp-IsAntisymmetric}
use Rattle.std.specs.FinMap.Entries.{find, below_all}
use Rattle.std.specs.Cmp.Lexicographic.{nat_list_cmp_total}
use Rattle.std.specs.List.{AllByRecursion}
use Rattle.jfr_outside.specs.World.{World, Files, IfKnown}
use Rattle.jfr_header.specs.declared.ending.Ending.{Ending}
use Rattle.jfr_header.proofs.Steps.{map_known}
use Rattle.jfr_plan.specs.Ends.{CommandEnd, command_end}
use Rattle.jfr_plan.specs.Effects.{Create, Snapshot, snapshot, done, effects}
use Rattle.jfr_plan.specs.Rules.{Goes}
use Rattle.jfr_plan.specs.Parts.{PartWorld}
use Rattle.jfr_split.specs.Names.{is_joined}
use Rattle.jfr_split.specs.Clauses.{FilesOutcome}
use Rattle.jfr_split.specs.Joins.{joining_all, files_in, assembling, CanJoin}
use Rattle.jfr_split.proofs.Basics.{first_holds, second_holds, for_each, some_none}
use Rattle.jfr_split.proofs.Ordered.{order}
use Rattle.jfr_split.proofs.Over.{Entries, is, is_self, look, same_name}
use Rattle.jfr_split.proofs.Composing.{outcome_after}
use Rattle.jfr_split.proofs.Joined.{part_ended}

-- Each entry of a list in order is found under its key.
apart_less : (a b : Ordering) → b ≡ ordering_reverse a → T (is_lt a) → is_eq b ≡ false
apart_less Less b e h = ap is_eq e
apart_less Equal b e h = absurd h
apart_less Greater b e h = absurd h

own_later : (e : List ℕ × List ℕ) (all es : Entries) → T (below_all order e.0 es) → AllByRecursion (λ x. find order x.0 all ≡ Some x.1) es
    → AllByRecursion (λ x. find order x.0 (e ∷ all) ≡ Some x.1) es
own_later e all [] l h = tt
own_later e all (x ∷ es) l h =
    let apart : is x.0 e.0 ≡ false = apart_less (order e.0 x.0) (order x.0 e.0) (nat_list_cmp_total.antisymm x.0 e.0) (first_holds (is_lt (order e.0 x.0)) (below_all order e.0 es) l) in
    (ap (λ (b : Bool). cond b (Some e.1) (find order x.0 all)) apart ∙ h.0, own_later e all es (second_holds (is_lt (order e.0 x.0)) (below_all order e.0 es) l) h.1)

own_entries : (es : Entries) → T (is_sorted order es) → AllByRecursion (λ x. find order x.0 es ≡ Some x.1) es
own_entries [] s = tt
own_entries (e ∷ es) s = (
  ap (λ (b : Bool). cond b (Some e.1) (find order e.0 es)) (is_self e.0),
  own_later e es es (first_holds (below_all order e.0 es) (is_sorted order es) s)
      (own_entries es (second_holds (below_all order e.0 es) (is_sorted order es) s)),
)

-- The files that are joined are files.
pub kept_at : (folder : List ℕ) (files : Files) (q : List ℕ) → fin.get (files_in folder files) q ≡ cond (is_joined folder q) (fin.get files q) None
kept_at folder files q = get-retain_keys files (is_joined folder) q (λ x e. ap (is_joined folder) (sym (slice_cmp-IsAntisymmetric nat_cmp-IsAntisymmetric q x e)))

was_there : (b : Bool) (o : Option (List ℕ)) (v : List ℕ) → cond b o None ≡ Some v → o ≡ Some v
was_there true o v e = e
was_there false o v e = cc

joined_there : (folder : List ℕ) (files : Files) → AllByRecursion (λ e. fin.get files e.0 ≡ Some e.1) (fin.entries (files_in folder files))
joined_there folder files =
    let m = files_in folder files in
    for_each (λ e. find order e.0 (fin.entries m) ≡ Some e.1) (λ e. fin.get files e.0 ≡ Some e.1) (fin.entries m)
    (λ e h. was_there (is_joined folder e.0) (fin.get files e.0) e.1 (sym (kept_at folder files e.0) ∙ get-entries m e.0 ∙ h))
    (own_entries (fin.entries m) (entries_sorted m))

some_other : (q out v : List ℕ) (files : Files) → fin.get files q ≡ Some v → fin.get files out ≡ None → q ≡ out → ⊥
some_other q out v files h n e = some_none (fin.get files q) v h (ap (λ (x : List ℕ). fin.get files x) e ∙ n)

names_apart : (es : Entries) (out : List ℕ) (files : Files) → fin.get files out ≡ None → AllByRecursion (λ e. fin.get files e.0 ≡ Some e.1) es → AllByRecursion (λ q. q ≡ out → ⊥) (map (λ e. e.0) es)
names_apart [] out files n h = tt
names_apart (e ∷ es) out files n h = (some_other e.0 out e.1 files h.0 n, names_apart es out files n h.1)

no_tie : (b : Bool) (q out : List ℕ) → is q out ≡ b → (q ≡ out → ⊥) → b ≡ false
no_tie true q out e n = absurd (n (same_name q out e))
no_tie false q out e n = refl

held_all : (es : Entries) (out : List ℕ) (files : Files) → fin.get files out ≡ None → AllByRecursion (λ e. fin.get files e.0 ≡ Some e.1) es
    → map (λ q. fin.get (fin.insert files out []) q) (map (λ e. e.0) es) ≡ map (λ x. Some x) (map (λ e. e.1) es)
held_all [] out files n h = refl
held_all (e ∷ es) out files n h =
    let apart : is e.0 out ≡ false = no_tie (is e.0 out) e.0 out refl (some_other e.0 out e.1 files h.0 n) in
    let here : fin.get (fin.insert files out []) e.0 ≡ Some e.1 = look files out [] e.0 ∙ ap (λ (b : Bool). cond b (Some []) (fin.get files e.0)) apart ∙ h.0 in
    ap (λ (o : Option (List ℕ)). o ∷ map (λ q. fin.get (fin.insert files out []) q) (map (λ e. e.0) es)) here ∙ ap (λ (l : List (Option (List ℕ))). Some e.1 ∷ l) (held_all es out files n h.1)

was_new : (o p : Option (List ℕ)) → true ≡ (true && not (is_some o) && not (is_some p)) → o ≡ None
was_new None p e = refl
was_new (Some x) p e = cc

-- The output is there beside the files that are joined.
can_join : (folder out : List ℕ) (names : List (List ℕ)) (w v : World) → names ≡ fin.keys (files_in folder w.files) → snapshot v None ≡ done (Create out ∷ []) (snapshot w None)
    → CanJoin out names (fin.values (files_in folder w.files)) v
can_join folder out names w v are s =
    let es = fin.entries (files_in folder w.files) in
    let new : fin.get w.files out ≡ None = was_new (fin.get w.files out) w.output (ap (λ (x : Snapshot). x.sound) s) in
    let there = joined_there folder w.files in
    let files : v.files ≡ fin.insert w.files out [] = ap (λ (x : Snapshot). x.files) s in
    record {
      opened = ap (λ (x : Snapshot). x.output) s;
      apart = subst (λ (ns : List (List ℕ)). AllByRecursion (λ q. q ≡ out → ⊥) ns) (sym are) (names_apart es out w.files new there);
      held = ap (λ (fs : Files). map (λ q. fin.get fs q) names) files ∙ ap (λ (ns : List (List ℕ)). map (λ q. fin.get (fin.insert w.files out []) q) ns) are ∙ held_all es out w.files new there;
    }

-- The output was created, and then the files were joined.
pub assembled : (steady : Bool) (folder out : List ℕ) (names : List (List ℕ)) (ended : CommandEnd) (o : Unit {0}) (b a e : Option World) → IfSome b (λ w. names ≡ fin.keys (files_in folder w.files))
    → IfKnown b a (PartWorld steady (Goes (Create out ∷ [])) (Ok o) None None)
    → ((contents : List (List ℕ)) → IfSome a (CanJoin out names contents) → IfKnown a e (λ v u. FilesOutcome steady (joining_all contents) ended (snapshot v None) (snapshot u None)))
    → IfKnown b e (λ w u. FilesOutcome steady (assembling folder out w.files) ended (snapshot w None) (snapshot u None))
assembled steady folder out names ended o None a e are c f = tt
assembled steady folder out names ended o (Some w) None e are c f = absurd c
assembled steady folder out names ended o (Some w) (Some v) None are c f = f (fin.values (files_in folder w.files)) (can_join folder out names w v are c.1.1)
assembled steady folder out names ended o (Some w) (Some v) (Some u) are c f =
    let contents = fin.values (files_in folder w.files) in
    outcome_after steady (Create out ∷ []) (assembling folder out w.files) (joining_all contents) ended (snapshot w None) (snapshot v None) (snapshot u None) refl refl refl c.1.1
    (f contents (can_join folder out names w v are c.1.1))

-- The output could not be created.
pub not_created : (steady : Bool) (folder out : List ℕ) (ending : Ending) (b a : Option World) → IfKnown b a (PartWorld steady (Goes (Create out ∷ [])) (Err ending) None None)
    → IfKnown b a (λ w v. FilesOutcome steady (assembling folder out w.files) (command_end ending) (snapshot w None) (snapshot v None))
not_created steady folder out ending b a h =
    map_known b a (PartWorld steady (Goes (Create out ∷ [])) (Err ending) None None)
    (λ w v. FilesOutcome steady (assembling folder out w.files) (command_end ending) (snapshot w None) (snapshot v None)) h
    (λ w v k. part_ended steady (Create out ∷ []) (effects (joining_all (fin.values (files_in folder w.files))).steps) (assembling folder out w.files) (command_end ending) (snapshot w None)
    (snapshot v None) refl k.1)

-- What holds for a place holds for another with the same known files.
pub told_same : (P : Bool → World → World → Type 0) (st st' : Bool) (b b' a : Option World) → st' ≡ st → b' ≡ b → IfKnown b' a (P st') → IfKnown b a (P st)
told_same P st st' b b' a e f h = subst (λ (y : Option World). IfKnown y a (P st)) f (subst (λ (y : Bool). IfKnown b' a (P y)) e h)
