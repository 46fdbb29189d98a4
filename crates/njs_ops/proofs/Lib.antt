mod Decimals
