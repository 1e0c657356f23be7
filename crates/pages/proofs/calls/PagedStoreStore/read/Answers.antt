use Rattle.std.proofs.Common.{◌≡◌, ℕ, ◌-◌, ◌≤◌, min, List, ◌++◌, length, take, drop, vec_items, sym, ap, ◌∙◌, arith}
use Rattle.std.proofs.lemmas.List.{length-take}
use Rattle.std.proofs.lemmas.Bool.Decides.{nat_tests}
use Rattle.pages.specs.Layout.{filed_len, texts, flat}
use Rattle.store.specs.declared.owner.Owner.TheVariants.{Item}
use Rattle.pages.proofs.Texts.{length-flat}
use Rattle.pages.proofs.Frame.{bytes_is, bytes_length}
use Rattle.pages.proofs.Copies.{read_is}
use Rattle.pages.proofs.calls.PagedStoreStore.read.Goals as goal

pub returns : goal.returns
returns c =
    let s = c.args.self.now in
    let ps = vec_items s.pages.taken in
    let fs = vec_items s.entries in
    let i = c.args.item in
    let from = c.args.from in
    let buf = c.args.buf.now in
    let n = c.min-n.result in
    let told = c.in_ok-len.ensures in
    let len_is : c.in_ok-len.len ≡ filed_len fs i = told.1 ∙ bytes_length ps fs i s.filings in
    let held : filed_len fs i ≤ length (flat (texts (Item i) ps)) = omega (arith, length-flat (Item i) ps, s.filings i) in
    let got = rw c.in_ok-left.ensures.ok_part at c.checked_sub.ensures in
    let within : from ≤ c.in_ok-len.len = got.0 in
    let sub : List ℕ = take n buf in
    let sub-long : length sub ≡ n = simp length-take (omega (arith, c.min-n.ensures)) in
    let n-is : n ≡ min (filed_len fs i - from) (length buf) = c.min-n.ensures ∙ ap (λ k. min k (length buf)) got.1 ∙ ap (λ k. min (k - from) (length buf)) len_is in
    let h = read_is (flat (texts (Item i) ps)) _ sub c.copy.new.buf (filed_len fs i) from (length buf) n (bytes_is ps fs i) held (omega arith) n-is sub-long c.copy.ensures in
    let long = bytes_length ps fs i s.filings in
    (grind (arith, nat_tests), (sym h.1, ap (λ x. x ++ drop n buf) h.0))
