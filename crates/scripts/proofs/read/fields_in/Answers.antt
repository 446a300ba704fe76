use Rattle.std.proofs.Common.{[], length, Some, sym, refl, ap, ◌∙◌, arith}
use Rattle.std.proofs.lemmas.List.{length-map, length_push}
use Rattle.std.proofs.lemmas.Result.{err_from_is_err_and}
use Rattle.std.proofs.lemmas.Slice.Zip.{zip_turn, zip_end}
use Rattle.scripts.specs.Form.{said, form_of}
use Rattle.scripts.specs.Told.{drafted}
use Rattle.scripts.proofs.Fields.{Left, texts_of, fields_uneven, fields_begin, field_more, field_not, fields_read}
use Rattle.scripts.proofs.Formed.{read_formed}
use Rattle.scripts.proofs.read.fields_in.Goals as goal

pub returns-then-texts-form : goal.returns-then-texts-form
returns-then-texts-form c =
    sym (fields_uneven (Some (said c.args.verb [] [])) (form_of c.args.verb) (texts_of c.args.texts.now) (λ e. c.if-texts-form.true (sym (length-map c.args.texts.now (λ t. t.now)) ∙ e ∙ sym (ap length c.form-form.ensures))))

pub loop-field-preserved : goal.loop-field-preserved
loop-field-preserved c =
    let t = zip_turn (form_of c.args.verb) c.args.texts.now c.loop-field.yielded c.into_iter-field-iterator.result c.loop-field.field-iterator c.next.new.self _ (cc) (cc) c.loop-field.yielded_by _ c.in-Some.is c.next.ensures.steps in
    ap (λ n. Left c.add_field.new.draft n (form_of c.args.verb) c.args.texts.now) (length_push c.loop-field.yielded (c.in-Some.field, c.in-Some.text))
    ∙ field_more (form_of c.args.verb) c.args.texts.now (length c.loop-field.yielded) c.in-Some.field.now c.in-Some.text.now t.0 t.1 t.2 t.3 c.loop-field.draft c.add_field.new.draft _ (c.in_ok-add_field.ensures) c.loop-field.invariant

pub returns-in_err-add_field : goal.returns-in_err-add_field
returns-in_err-add_field c =
    let t = zip_turn (form_of c.args.verb) c.args.texts.now c.loop-field.yielded c.into_iter-field-iterator.result c.loop-field.field-iterator c.next.new.self _ (cc) (cc) c.loop-field.yielded_by _ c.in-Some.is c.next.ensures.steps in
    let r = err_from_is_err_and c.from_residual.result c.from_residual.ensures.1 in
    rw r.1 (rw r.2 (field_not (form_of c.args.verb) c.args.texts.now (length c.loop-field.yielded) c.in-Some.field.now c.in-Some.text.now t.0 t.1 t.2 t.3 {A = Unit {0}} (λ _. drafted c.add_field.new.draft) c.in_err-add_field.field-0.0 c.loop-field.draft _ c.in_err-add_field.ensures (c.loop-field.invariant ∙ fields_begin c.args.verb c.new.result c.new-2.result (form_of c.args.verb) c.args.texts.now c.new.ensures.items c.new-2.ensures.items refl)))

pub returns : goal.returns
returns c =
    let n = zip_end (form_of c.args.verb) c.args.texts.now c.loop-field.yielded c.into_iter-field-iterator.result c.loop-field.field-iterator c.next.new.self _ (cc) (cc) c.loop-field.yielded_by c.in-None.is c.next.ensures.steps in
    fields_read c.args.verb c.args.texts.now c.loop-field.draft c.new.result c.new-2.result _ n (c.if-texts-form.false ∙ ap length c.form-form.ensures) c.new.ensures.items c.new-2.ensures.items c.loop-field.invariant

pub invariant_of-result : goal.invariant_of-result
invariant_of-result c =
    let n = zip_end (form_of c.args.verb) c.args.texts.now c.loop-field.yielded c.into_iter-field-iterator.result c.loop-field.field-iterator c.next.new.self _ (cc) (cc) c.loop-field.yielded_by c.in-None.is c.next.ensures.steps in
    record {
      formed = read_formed c.args.verb (texts_of c.args.texts.now) (drafted c.loop-field.draft) (fields_read c.args.verb c.args.texts.now c.loop-field.draft c.new.result c.new-2.result _ n (c.if-texts-form.false ∙ ap length c.form-form.ensures) c.new.ensures.items c.new-2.ensures.items c.loop-field.invariant);
    }
