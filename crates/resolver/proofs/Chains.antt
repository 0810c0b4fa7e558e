-- Every chain of calls on a new resolver keeps what is promised. Assumes nothing.
use Rattle.std.proofs.Common.{◌≡◌, List, [], ◌∷◌, ap, subst}
use Rattle.ladder.specs.Rules.{Rules, Lawful}
use Rattle.book.specs.Book.{Book, Outcome}
use Rattle.book.specs.Runs.{Event, AsTheBook, New}
use Rattle.book.proofs.Runs.{runs_keep}
use Rattle.resolver.specs.declared.tables.Core.{Core}
use Rattle.resolver.specs.Calls.{Chain, KeepsPromise}
use Rattle.resolver.specs.Standing.{book}

-- a chain of calls answers as the book does
pub as_the_book : {C P : Type 0} (c : Rules C P) (es : List (Event C)) (k : Core C) → Chain c k es → AsTheBook c (book k) es
as_the_book c [] k t = tt
as_the_book {C} c (e ∷ es) k t =
    (ap (λ (x : Outcome C). x.answer) t.1, ap (λ (x : Outcome C). x.output) t.1, subst (λ (d : Book). AsTheBook c d es) (ap (λ (x : Outcome C). x.book) t.1) (as_the_book c es t.0 t.2))

-- a resolver whose book is the new book b
pub keeps_promise : {C P : Type 0} (c : Rules C P) → Lawful c → (k : Core C) → (b : Book) → New (book k) → book k ≡ b → KeepsPromise c b k
keeps_promise {C} c laws k b new is es t = runs_keep c laws b (subst New is new) es (subst (λ (d : Book). AsTheBook c d es) is (as_the_book c es k t))
