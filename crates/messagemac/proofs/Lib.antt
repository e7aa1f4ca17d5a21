mod Decimal
mod Laws
