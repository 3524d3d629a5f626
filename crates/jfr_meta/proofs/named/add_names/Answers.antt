use Rattle.std.proofs.Common.{◌≡◌, ◌∙◌, ap, sym, subst, ◌++◌, true, false}
use Rattle.std.specs.Prelude.{is_some, option_map}
use Rattle.std.specs.List.{AllZip}
use Rattle.std.specs.Option.{option_to_list}
use Rattle.jfr_meta.specs.declared.named.ClassNames.{ClassNames}
use Rattle.jfr_meta.specs.Attributes.{text_at}
use Rattle.jfr_meta.specs.Described.{IsNamedBy, class_head, class_of}
use Rattle.jfr_meta.proofs.NamedLaws.{ArePartNames, as_there, names_next, unnamed}
use Rattle.jfr_meta.proofs.named.add_names.Goals as goal

pub returns-then-is_none : goal.returns-then-is_none
returns-then-is_none c = record {
  ok = λ hs classes known z.
      (let none : is_some (class_head c.args.strings.now c.args.element.now) ≡ false = as_there _ c.class_head.result (class_head c.args.strings.now c.args.element.now) c.class_head.ensures
      ∙ c.if-is_none.ensures in
      unnamed c.args.strings.now hs c.args.element.now classes c.args.names.now.items z none);
}

pub returns : goal.returns
returns c = record {
  ok = λ hs classes known z.
      (let some : is_some (class_head c.args.strings.now c.args.element.now) ≡ true = as_there _ c.class_head.result (class_head c.args.strings.now c.args.element.now) c.class_head.ensures
      ∙ c.if-is_none.ensures in
      let names : ClassNames = record { name = c.in-Some.name; super_name = c.attribute_index-super_name.result; fields = c.in_ok-fields.fields; categories = c.in_ok-categories.categories } in
      let parts : ArePartNames c.args.strings.now hs c.args.element.now names =
      record { super_name = c.attribute_index-super_name.ensures; fields = c.in_ok-fields.ensures.ok; categories = c.in_ok-categories.ensures.ok hs known } in
      let name = sym (ap (option_map (text_at c.args.strings.now)) c.in-Some.is) ∙ c.attribute_index.ensures in
      subst (AllZip (IsNamedBy c.args.strings.now) (classes ++ option_to_list (class_of c.args.strings.now hs c.args.element.now))) (sym c.in_ok-push.ensures.items)
      (names_next c.args.strings.now hs c.args.element.now classes c.args.names.now.items names z name parts some));
}
