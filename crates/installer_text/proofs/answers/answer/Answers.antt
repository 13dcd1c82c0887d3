use Rattle.std.proofs.Common.{vec_items, sym, ◌∙◌, subst}
use Rattle.std.proofs.lemmas.Result.{on_ok_weaker}
use Rattle.words.specs.Hex.{Bytes, NoBytes}
use Rattle.words.specs.Parts.{words}
use Rattle.words.specs.Placed.{bytes_of}
use Rattle.installer_text.specs.Answers.{Asked}
use Rattle.installer_text.proofs.Forms.{no_bytes, one_more, just_two}
use Rattle.installer_text.proofs.answers.answer.Goals as goal

pub returns-in_default-2 : goal.returns-in_default-2
returns-in_default-2 c =
    let line = c.args.line in
    let named = sym c.bytes.ensures ∙ c.in-Some-named.ensures in
    let none : NoBytes (bytes_of c.in-Some-next.hex) = rw (c.bytes-2.ensures, c.in_default-2.is) at c.in_ok-file.ensures in
    on_ok_weaker c.no_form-in_default-2.result
    (λ a. (a.0, no_bytes c.in-Some-named.command line.at _ (words (bytes_of line)) c.words-words.ensures c.in-Some.ensures.steps c.in-Some-next.ensures.steps named a.0 none a.1, a.2))
    c.no_form-in_default-2.ensures

pub returns-in-Some-next-2 : goal.returns-in-Some-next-2
returns-in-Some-next-2 c =
    let line = c.args.line in
    let named = sym c.bytes.ensures ∙ c.in-Some-named.ensures in
    let file = vec_items c.in-Some-2.file in
    let bytes : Bytes (bytes_of c.in-Some-next.hex) file = rw (c.bytes-2.ensures, c.in-Some-2.is) at c.in_ok-file.ensures in
    on_ok_weaker c.no_form-in-Some-next-2.result
    (λ a. (a.0, one_more c.in-Some-named.command line.at _ (words (bytes_of line)) c.words-words.ensures c.in-Some.ensures.steps c.in-Some-next.ensures.steps named c.in-Some-next-2.ensures.steps file a.0 bytes a.1, a.2))
    c.no_form-in-Some-next-2.ensures

pub returns : goal.returns
returns c =
    let line = c.args.line in
    let command = c.in-Some-named.command in
    let named = sym c.bytes.ensures ∙ c.in-Some-named.ensures in
    let file = vec_items c.in-Some-2.file in
    let bytes : Bytes (bytes_of c.in-Some-next.hex) file = rw (c.bytes-2.ensures, c.in-Some-2.is) at c.in_ok-file.ensures in
    on_ok_weaker c.carry_out.result
    (λ a. (a.0, just_two command line.at _ (words (bytes_of line)) c.words-words.ensures c.in-Some.ensures.steps c.in-Some-next.ensures.steps named c.in_default-next-2.ensures.steps.0 file a.0 bytes (subst (λ f. Asked command f a.0) c.deref.ensures.value a.1), a.2))
    c.carry_out.ensures
