use Rattle.cpi_sql.proofs.Lending.{ends_more, gives, with_fact}
use Rattle.cpi_sql.specs.contracts.sql_book.SqlBook.{the_row}
use Rattle.cpi_sql.proofs.sql_book.SqlBookBook.TheImpl.Goals as goal

pub outlet-meets : goal.outlet-meets
outlet-meets g c = gives g.world.𝓤 _ _ _ _ (λ r e. with_fact g.world.𝓤 _ _ _
    (ends_more g.world.𝓤 g.world.𝓛 (the_row g.row.S g.S.Store) c.args.self.ghost_name _ _ (λ book it. it.0))
    (λ never. absurd never))

pub public_part-meets : goal.public_part-meets
public_part-meets g c = gives g.world.𝓤 _ _ _ _ (λ r e. with_fact g.world.𝓤 _ _ _
    (ends_more g.world.𝓤 g.world.𝓛 (the_row g.row.S g.S.Store) c.args.self.ghost_name _ _ (λ book it. it.0))
    (λ never. absurd never))

pub own-meets : goal.own-meets
own-meets g c = gives g.world.𝓤 _ _ _ _ (λ r e. with_fact g.world.𝓤 _ _ _
    (ends_more g.world.𝓤 g.world.𝓛 (the_row g.row.S g.S.Store) c.args.self.ghost_name _ _ (λ book it. it.0))
    (λ never. absurd never))

pub parts-meets : goal.parts-meets
parts-meets g c = gives g.world.𝓤 _ _ _ _ (λ r e. with_fact g.world.𝓤 _ _ _
    (ends_more g.world.𝓤 g.world.𝓛 (the_row g.row.S g.S.Store) c.args.self.ghost_name _ _ (λ book it. it.0))
    (λ never. absurd never))

pub table-meets : goal.table-meets
table-meets g c = gives g.world.𝓤 _ _ _ _ (λ r e. with_fact g.world.𝓤 _ _ _
    (ends_more g.world.𝓤 g.world.𝓛 (the_row g.row.S g.S.Store) c.args.self.ghost_name _ _ (λ book it. it.0))
    (λ never. absurd never))
