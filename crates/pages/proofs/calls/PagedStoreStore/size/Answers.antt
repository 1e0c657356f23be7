use Rattle.std.proofs.Common.{◌≡◌, ℕ, ◌<◌, ◌≤◌, length, None, get_or, vec_items, ap, ◌∙◌, arith}
use Rattle.std.proofs.lemmas.Result.{err_from_is_err_and}
use Rattle.std.proofs.lemmas.Bool.Decides.{nat_tests}
use Rattle.store.specs.declared.entry.Entry.{Entry}
use Rattle.store.specs.Meaning.{bytes_at}
use Rattle.pages.specs.Layout.{item_of, items_of}
use Rattle.pages.specs.Indexed.{length-imap}
use Rattle.pages.proofs.Frame.{bytes_length, filed_at}
use Rattle.pages.proofs.calls.PagedStoreStore.size.Goals as goal

pub returns-in_err-entry : goal.returns-in_err-entry
returns-in_err-entry c =
    let s = c.args.self.now in
    let n = length-imap (item_of (vec_items s.pages.taken)) (vec_items s.entries) in
    let none : c.get.result ≡ None = grind arith in
    let past = rw none at c.get.ensures.lookup in
    let far : length (vec_items s.entries) ≤ c.args.item = omega (arith, past.3, ap length c.deref.ensures.value) in
    let p = err_from_is_err_and c.from_residual.result c.from_residual.ensures.1 in
    let why = c.in_err-entry.ensures.value in
    rw (p.1, p.2) (grind (arith, nat_tests), tt)

pub returns : goal.returns
returns c =
    let s = c.args.self.now in
    let ps = vec_items s.pages.taken in
    let fs = vec_items s.entries in
    let i = c.args.item in
    let x = c.in_ok-entry.entry.now in
    let got = rw c.in_ok-entry.ensures.ok_part at c.get.ensures.lookup in
    let lt : i < length fs = omega (arith, got.3.0, ap length c.deref.ensures.value) in
    let n = length-imap (item_of ps) fs in
    let sized : (z : Entry ℕ) → length (bytes_at (items_of ps fs) i) ≡ (get_or fs i z).kept = λ z. bytes_length ps fs i s.filings ∙ filed_at fs i z lt in
    (grind (arith, nat_tests), grind (arith, sized))
